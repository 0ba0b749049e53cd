-- Where a lane's functions change sign between g0 and g1. Assumes nothing.
use Rattle.std.specs.Prelude.{◌≡◌, ℕ, zero, suc, ◌<◌, Bool, false, ◌&&◌, ◌||◌, List, ℤ, pos, negsuc, if◌then◌else◌}
use Rattle.scalar.specs.Ops.{Ops}
use Rattle.scalar.specs.Orders.{Order}
use Rattle.scalar.specs.Sums.{at}
use Rattle.shape.specs.Shapes.{cell}
use Rattle.shape.specs.Lanes.{lane_for}
use Rattle.shape.specs.declared.operand.Column.{Column}

module _ {M : Type 0} (o : Ops M) (order : Order M) where
  -- |g1 / (g1 − g0)|
  abbrev pub fraction : M → M → M
  fraction g0 g1 = order.size (order.over g1 (o.plus g1 (o.minus g0)))

  -- the signs differ and the fraction is above the best so far
  abbrev pub replaces : M → M → M → Bool
  replaces best g0 g1 = order.less (o.times g0 g1) o.zero && order.less best (fraction g0 g1)

  -- over the first n rows: whether some g1 is zero, the greatest fraction above zero, and its row, −1 where there is none
  abbrev pub found : (ℕ → M) → ℕ → Bool
  found g1 zero = false
  found g1 (suc n) = found g1 n || o.is_zero (g1 n)

  abbrev pub best : (ℕ → M) → (ℕ → M) → ℕ → M
  best g0 g1 zero = o.zero
  best g0 g1 (suc n) = if replaces (best g0 g1 n) (g0 n) (g1 n) then fraction (g0 n) (g1 n) else best g0 g1 n

  abbrev pub row : (ℕ → M) → (ℕ → M) → ℕ → ℤ
  row g0 g1 zero = negsuc 0
  row g0 g1 (suc n) = if replaces (best g0 g1 n) (g0 n) (g1 n) then pos n else row g0 g1 n

-- an answer of a lane's rows
pub record Says {S M : Type 0} (means : S → M) (o : Ops M) (order : Order M) (g0 g1 : ℕ → M) (rows : ℕ) (zeros : Bool) (part : S) (place : ℤ) : Type 0 where
  pub found_is : zeros ≡ found o order g1 rows
  pub part_is : means part ≡ best o order g0 g1 rows
  pub row_is : place ≡ row o order g0 g1 rows

-- lane b of g0, and of g1 the lane that it reads
abbrev pub lane0 : {S M : Type 0} → (S → M) → Ops M → Column → List S → ℕ → ℕ → M
lane0 means o g0 g0s b i = at means o g0s (cell g0.of b g0.col i)

abbrev pub lane1 : {S M : Type 0} → (S → M) → Ops M → Column → Column → List S → ℕ → ℕ → M
lane1 means o g0 g1 g1s b i = at means o g1s (cell g1.of (lane_for b g1.of.lanes g0.of.lanes) g1.col i)

-- every lane below n says the same as lane 0
pub record Agree {M : Type 0} (o : Ops M) (order : Order M) (g0 g1 : ℕ → ℕ → M) (rows n : ℕ) : Type 0 where
  pub found_same : (b : ℕ) → b < n → found o order (g1 b) rows ≡ found o order (g1 0) rows
  pub part_same : (b : ℕ) → b < n → best o order (g0 b) (g1 b) rows ≡ best o order (g0 0) (g1 0) rows
  pub row_same : (b : ℕ) → b < n → row o order (g0 b) (g1 b) rows ≡ row o order (g0 0) (g1 0) rows

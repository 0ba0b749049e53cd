-- The weighted squared norm of a lane, and of all lanes. Assumes nothing.
use Rattle.std.specs.Prelude.{◌≡◌, ℕ, zero, suc, Bool, not, ◌||◌, List, [], ◌∷◌, ◌==◌, if◌then◌else◌}
use Rattle.scalar.specs.Ops.{Ops}
use Rattle.scalar.specs.Orders.{Order}
use Rattle.scalar.specs.Sums.{at, sum}
use Rattle.shape.specs.Shapes.{cell, no_lanes, too_large, misfit, no_column, Lawful}
use Rattle.shape.specs.Lanes.{lane_for, no_broadcast}
use Rattle.shape.specs.declared.operand.Column.{Column}

module _ {M : Type 0} (o : Ops M) (order : Order M) where
  -- the square of x / (|y|·rtol + atol)
  abbrev pub weighted : M → M → M → M → M
  weighted x y rtol atol = let q = order.over x (o.plus (o.times (order.size y) rtol) atol) in o.times q q

  -- the sum of the squares, first row to last, divided by the number of rows
  abbrev pub mean : ℕ → (ℕ → M) → (ℕ → M) → M → (ℕ → M) → M
  mean rows x y rtol atol = order.over (sum o (λ i. weighted (x i) (y i) rtol (atol i)) rows) (order.count rows)

  -- the greatest of the first n, starting from zero
  abbrev pub greatest : (ℕ → M) → ℕ → M
  greatest f zero = o.zero
  greatest f (suc n) = order.greater (greatest f n) (f n)

  -- one lane is the answer itself, several give the greatest
  abbrev pub reduced : (ℕ → M) → ℕ → M
  reduced f n = if n == 1 then f 0 else greatest f n

-- row i of column v in lane b
abbrev pub row_at : {S M : Type 0} → (S → M) → Ops M → Column → List S → ℕ → ℕ → M
row_at means o v vs b i = at means o vs (cell v.of b v.col i)

-- the norm of lane b of x, with y and atol of the lanes that it reads
abbrev pub lane_norm : {S M : Type 0} → (S → M) → Ops M → Order M → Column → List S → Column → List S → Column → List S → M → ℕ → M
lane_norm means o order x xs y ys a tols rtol b =
    mean o order x.of.rows (row_at means o x xs b) (row_at means o y ys (lane_for b y.of.lanes x.of.lanes)) rtol
    (row_at means o a tols (lane_for b a.of.lanes x.of.lanes))

abbrev pub norm_tests : Column → ℕ → Column → ℕ → Column → ℕ → List (ℕ × Bool)
norm_tests x xl y yl a al =
    (1, (no_lanes x.of || no_lanes y.of) || no_lanes a.of)
    ∷ (2, (too_large x.of || too_large y.of) || too_large a.of)
    ∷ (3, (misfit x.of xl || misfit y.of yl) || misfit a.of al)
    ∷ (4, (no_column x || no_column y) || no_column a)
    ∷ (7, not (y.of.rows == x.of.rows) || not (a.of.rows == x.of.rows))
    ∷ (8, no_broadcast y.of.lanes x.of.lanes || no_broadcast a.of.lanes x.of.lanes) ∷ []

pub record NormLawful (x : Column) (xl : ℕ) (y : Column) (yl : ℕ) (a : Column) (al : ℕ) : Type 0 where
  pub target : Lawful x xl
  pub second : Lawful y yl
  pub third : Lawful a al
  pub second_rows : y.of.rows ≡ x.of.rows
  pub third_rows : a.of.rows ≡ x.of.rows

-- What an elementwise call leaves: every entry is what a rule makes, and nothing else moved. Assumes nothing.
use Rattle.std.specs.Prelude.{◌≡◌, ℕ, ◌+◌, ◌-◌, ◌≤◌, Bool, ◌||◌, ◌==◌, List, slice_index_or}
use Rattle.shape.specs.Shapes.{cell, Fits}
use Rattle.shape.specs.Lanes.{lane_for}
use Rattle.shape.specs.Changes.{Changed, InColumn, Everywhere}
use Rattle.shape.specs.declared.operand.TableShape.{TableShape}
use Rattle.shape.specs.declared.operand.Column.{Column}
use Rattle.shape.specs.declared.operand.Band.{Band}

-- each row of column y holds a v with R x y v, where x is column x's row, of the lane that is read, and y the old entry
abbrev pub Entrywise : {S : Type 0} → Column → List S → Column → (S → S → S → Type 0) → List S → List S → Type 0
Entrywise {S = S} x xs y R old cur =
    Changed y.of (InColumn y.col)
    (λ b j i v. (d : S) → R (slice_index_or xs (cell x.of (lane_for b x.of.lanes y.of.lanes) x.col i) d) (slice_index_or old (cell y.of b j i) d) v) old cur

-- each cell of table y, likewise
abbrev pub Tablewise : {S : Type 0} → TableShape → List S → TableShape → (S → S → S → Type 0) → List S → List S → Type 0
Tablewise {S = S} x xs y R old cur =
    Changed y Everywhere
    (λ b j i v. (d : S) → R (slice_index_or xs (cell x (lane_for b x.lanes y.lanes) j i) d) (slice_index_or old (cell y b j i) d) v) old cur

-- with no source: each row of column y, and each cell of table y, holds a v with R y v for the old entry y
abbrev pub revised : {S : Type 0} → (S → S → Type 0) → TableShape → List S → ℕ → ℕ → ℕ → S → Type 0
revised {S = S} R t ys b j i v = (d : S) → R (slice_index_or ys (cell t b j i) d) v

abbrev pub Revised : {S : Type 0} → Column → (S → S → Type 0) → List S → List S → Type 0
Revised y R old cur = Changed y.of (InColumn y.col) (revised R y.of old) old cur

abbrev pub RevisedTable : {S : Type 0} → TableShape → (S → S → Type 0) → List S → List S → Type 0
RevisedTable y R old cur = Changed y Everywhere (revised R y old) old cur

-- ---- columns and tables at once: bands of columns

pub record BandLawful (y : Band) (yl : ℕ) : Type 0 where
  pub target : Fits y.of yl
  pub within : y.first + y.count ≤ y.of.cols

pub record BandsLawful (x : Band) (xl : ℕ) (y : Band) (yl : ℕ) : Type 0 where
  pub source : Fits x.of xl
  pub target : Fits y.of yl
  pub source_within : x.first + x.count ≤ x.of.cols
  pub target_within : y.first + y.count ≤ y.of.cols
  pub rows : x.of.rows ≡ y.of.rows
  pub count : x.count ≡ y.count

-- column j of band y reads the column of band x at the same distance from its first
abbrev pub banded : {S : Type 0} → (S → S → S → Type 0) → Band → List S → Band → List S → ℕ → ℕ → ℕ → S → Type 0
banded {S = S} R x xs y ys b j i v =
    (d : S) → R (slice_index_or xs (cell x.of (lane_for b x.of.lanes y.of.lanes) (x.first + (j - y.first)) i) d) (slice_index_or ys (cell y.of b j i) d) v

-- each lane's run ends where the next begins: there is one lane, or the band is all columns
abbrev pub joined : Band → Bool
joined y = y.of.lanes == 1 || y.count == y.of.cols

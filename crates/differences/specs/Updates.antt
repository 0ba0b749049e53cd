-- The update of a table of backward differences: the tests of the call, and what it leaves. Assumes nothing.
use Rattle.std.specs.Prelude.{◌≡◌, ℕ, zero, suc, ◌+◌, ◌-◌, ◌<◌, Bool, not, ◌||◌, List, [], ◌∷◌, ◌==◌, nat_le}
use Rattle.scalar.specs.Ops.{Ops}
use Rattle.scalar.specs.Sums.{at}
use Rattle.shape.specs.Shapes.{no_lanes, too_large, misfit, no_column, Fits, Lawful}
use Rattle.shape.specs.Lanes.{no_broadcast}
use Rattle.shape.specs.Changes.{Changed, meant, InBand, LaneBand}
use Rattle.shape.specs.declared.operand.Column.{Column}
use Rattle.shape.specs.declared.operand.TableShape.{TableShape}
use Rattle.differences.specs.Rows.{updated}
use Rattle.product.specs.Results.{row_of, broadcast}

-- order k, and the column d of a memory of `dl` scalars
abbrev pub update_tests : TableShape → ℕ → ℕ → Column → ℕ → List (ℕ × Bool)
update_tests t len k d dl =
    (1, no_lanes t || no_lanes d.of)
    ∷ (2, too_large t || too_large d.of)
    ∷ (3, misfit t len || misfit d.of dl)
    ∷ (4, nat_le t.cols (k + 2) || no_column d)
    ∷ (7, not (d.of.rows == t.rows))
    ∷ (8, no_broadcast d.of.lanes t.lanes) ∷ []

pub record UpdateLawful (t : TableShape) (len k : ℕ) (d : Column) (dl : ℕ) : Type 0 where
  pub fits : Fits t len
  pub source : Lawful d dl
  pub within : k + 2 < t.cols
  pub rows : d.of.rows ≡ t.rows

-- column j in row i of lane b after the update
abbrev pub cell_updated : {S M : Type 0} → (S → M) → Ops M → TableShape → ℕ → Column → List S → List S → ℕ → ℕ → ℕ → M
cell_updated means o t k d ds old b j i = updated o (row_of means o t old b i) (broadcast means o d ds t.lanes b i) k j

-- the columns up to k + 2 are updated, and no other moved
abbrev pub Updated : {S M : Type 0} → (S → M) → Ops M → TableShape → ℕ → Column → List S → List S → List S → Type 0
Updated means o t k d ds old cur = Changed t (InBand 0 (k + 3)) (meant means (cell_updated means o t k d ds old)) old cur

-- ---- one lane

-- each column gains its right neighbour, from column n to the left: t columns left of n
abbrev pub accumulated : {M : Type 0} → Ops M → (ℕ → M) → ℕ → ℕ → M
accumulated o x n zero = x n
accumulated o x n (suc t) = o.plus (x (n - suc t)) (accumulated o x n t)

abbrev pub cell_accumulated : {S M : Type 0} → (S → M) → Ops M → TableShape → ℕ → List S → ℕ → ℕ → ℕ → M
cell_accumulated means o t n old b j i = accumulated o (row_of means o t old b i) n (n - j)

-- the columns of a lane from j up to column n are accumulated, and no other moved
abbrev pub Accumulated : {S M : Type 0} → (S → M) → Ops M → TableShape → ℕ → ℕ → ℕ → List S → List S → Type 0
Accumulated means o t lane n j old cur = Changed t (LaneBand lane j (n - j)) (meant means (cell_accumulated means o t n old)) old cur

-- the update of a lane whose run of d starts at the place a
abbrev pub cell_updated_by : {S M : Type 0} → (S → M) → Ops M → TableShape → ℕ → List S → ℕ → List S → ℕ → ℕ → ℕ → M
cell_updated_by means o t k ds a old b j i = updated o (row_of means o t old b i) (at means o ds (a + i)) k j

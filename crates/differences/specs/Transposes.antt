-- The transpose of the update of a table of backward differences: the tests of the call, and what it leaves. Assumes nothing.
use Rattle.std.specs.Prelude.{◌≡◌, ℕ, ◌+◌, ◌<◌, ◌≤◌, Bool, false, not, ◌||◌, List, [], ◌∷◌, ◌==◌, nat_le, nat_lt, slice_index_or}
use Rattle.scalar.specs.Ops.{Ops}
use Rattle.scalar.specs.Sums.{sum}
use Rattle.shape.specs.Shapes.{cell, In, no_lanes, too_large, misfit, no_column, Fits, Lawful}
use Rattle.shape.specs.Lanes.{lane_for, no_broadcast}
use Rattle.shape.specs.Changes.{Changed, meant, InColumn}
use Rattle.shape.specs.declared.operand.Column.{Column}
use Rattle.shape.specs.declared.operand.TableShape.{TableShape}
use Rattle.product.specs.Rows.{summed}
use Rattle.differences.specs.Rows.{transposed}
use Rattle.product.specs.Results.{row_of}
use Rattle.differences.specs.MulCols.{Multiplied}

-- order k, the column d of a memory of `dl` scalars, and `work` scalars of work memory
abbrev pub transpose_tests : TableShape → ℕ → ℕ → Column → ℕ → ℕ → List (ℕ × Bool)
transpose_tests t len k d dl work =
    (1, no_lanes t || no_lanes d.of)
    ∷ (2, too_large t || too_large d.of)
    ∷ (3, misfit t len || (misfit d.of dl || nat_lt work 8))
    ∷ (4, nat_le t.cols (k + 2) || no_column d)
    ∷ (5, nat_lt 5 k)
    ∷ (7, not (t.rows == d.of.rows))
    ∷ (8, no_broadcast t.lanes d.of.lanes) ∷ []

pub record TransposeLawful (t : TableShape) (len k : ℕ) (d : Column) (dl work : ℕ) : Type 0 where
  pub fits : Fits t len
  pub target : Lawful d dl
  pub room : 8 ≤ work
  pub within : k + 2 < t.cols
  pub few : k ≤ 5
  pub rows : t.rows ≡ d.of.rows
  pub lanes : no_broadcast t.lanes d.of.lanes ≡ false

module _ {S M : Type 0} (means : S → M) (o : Ops M) where
  -- the row of the table that row i of lane b of d reads
  abbrev pub row_for : TableShape → List S → Column → ℕ → ℕ → ℕ → M
  row_for t ts d b i = row_of means o t ts (lane_for b t.lanes d.of.lanes) i

  -- the sum of n columns, as gemv makes it with ones for coefficients and zero for b
  abbrev pub cell_totalled : TableShape → List S → ℕ → Column → ℕ → ℕ → ℕ → M
  cell_totalled t ts n d b j i = summed o (row_for t ts d b i) 0 n o.one o.zero (λ l. o.one) o.zero

  -- column d holds that sum of the first n columns, and no other moved
  abbrev pub Totalled : TableShape → List S → ℕ → Column → List S → List S → Type 0
  Totalled t ts n d old cur = Changed d.of (InColumn d.col) (meant means (cell_totalled t ts n d)) old cur

  -- d holds the sum of the columns up to k + 2, and those are multiplied by the constant matrix
  pub record Transposed (t : TableShape) (k : ℕ) (d : Column) (ts ts' ds ds' : List S) : Type 0 where
    pub sum_in_d : Totalled t ts (k + 3) d ds ds'
    pub columns : Multiplied means o t (k + 3) (transposed o k) ts ts'

  -- what that is where the scalar is exact
  pub record Cumulative (t : TableShape) (k : ℕ) (d : Column) (ts ts' ds' : List S) : Type 0 where
    -- column j up to k is the sum of columns 0 to j
    pub sums : (b j i : ℕ) (e : S) → In t b j i → j ≤ k → means (slice_index_or ts' (cell t b j i) e) ≡ sum o (row_of means o t ts b i) (j + 1)
    -- column k + 1 is the negated column k + 2, which is cleared
    pub negated : (b i : ℕ) (e : S) → In t b (k + 1) i → means (slice_index_or ts' (cell t b (k + 1) i) e) ≡ o.minus (row_of means o t ts b i (k + 2))
    pub cleared : (b i : ℕ) (e : S) → In t b (k + 2) i → means (slice_index_or ts' (cell t b (k + 2) i) e) ≡ o.zero
    -- d is the sum of columns 0 to k + 2
    pub sum_in_d : (b i : ℕ) (e : S) → In d.of b d.col i → means (slice_index_or ds' (cell d.of b d.col i) e) ≡ sum o (row_for t ts d b i) (k + 3)

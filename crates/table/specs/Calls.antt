-- What the table calls write that are not the elementwise ones. Assumes nothing.
use Rattle.std.specs.Prelude.{◌≡◌, ℕ, ◌+◌, ◌*◌, ◌<◌, ◌≤◌, List, ◌≢◌, slice_index_or}
use Rattle.scalar.specs.Ops.{Ops}
use Rattle.shape.specs.Shapes.{cell}
use Rattle.shape.specs.Lanes.{lane_for}
use Rattle.shape.specs.Changes.{Changed, Everywhere, InColumn}
use Rattle.shape.specs.declared.operand.TableShape.{TableShape}
use Rattle.shape.specs.declared.operand.Column.{Column}

-- the cell of table x, of the lane that lane b of t reads
abbrev pub into : {S : Type 0} → TableShape → List S → TableShape → ℕ → ℕ → ℕ → S → S
into x xs t b j i d = slice_index_or xs (cell x (lane_for b x.lanes t.lanes) j i) d

module _ {S M : Type 0} (means : S → M) (o : Ops M) where
  -- every cell of t means x + beta·y
  abbrev pub ScaleAdded : TableShape → List S → M → TableShape → List S → TableShape → List S → List S → Type 0
  ScaleAdded x xs beta y ys t old cur =
      Changed t Everywhere (λ b j i v. (d : S) → means v ≡ o.plus (means (into x xs t b j i d)) (o.times beta (means (into y ys t b j i d)))) old cur

  -- lane l·c + k of vector v gained column k of lane l of table t, which has c columns
  abbrev pub ColumnsAdded : TableShape → List S → Column → List S → List S → Type 0
  ColumnsAdded t ts v old cur =
      Changed v.of (InColumn v.col)
      (λ b j i w. (l k : ℕ) (d : S) → k < t.cols → b ≡ l * t.cols + k → means w ≡ o.plus (means (slice_index_or old (cell v.of b j i) d)) (means (slice_index_or ts (cell t l k i) d))) old cur

  -- cell (i, i) holds row i of vector v, every other cell means zero
  pub record OnDiagonal (v : Column) (vs : List S) (b j i : ℕ) (w : S) : Type 0 where
    pub diagonal : (d : S) → i ≡ j → w ≡ slice_index_or vs (cell v.of b v.col i) d
    pub other : (i ≢ j) → means w ≡ o.zero

  abbrev pub Diagonal : Column → List S → TableShape → List S → List S → Type 0
  Diagonal v vs t old cur = Changed t Everywhere (OnDiagonal v vs) old cur

  -- a column that x has holds x's, a further one means zero
  pub record InResized (x : TableShape) (xs : List S) (b j i : ℕ) (w : S) : Type 0 where
    pub copied : (d : S) → j < x.cols → w ≡ slice_index_or xs (cell x b j i) d
    pub further : x.cols ≤ j → means w ≡ o.zero

  abbrev pub Resized : TableShape → List S → TableShape → List S → List S → Type 0
  Resized x xs y old cur = Changed y Everywhere (InResized x xs) old cur

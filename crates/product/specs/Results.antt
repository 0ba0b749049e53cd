-- What the matrix-vector calls leave, in a run of memory and in all lanes. Assumes nothing.
use Rattle.std.specs.Prelude.{◌≡◌, ℕ, ◌+◌, ◌*◌, ◌<◌, List, length, slice_index_or}
use Rattle.scalar.specs.Ops.{Ops}
use Rattle.scalar.specs.Sums.{at}
use Rattle.shape.specs.Shapes.{cell}
use Rattle.shape.specs.Lanes.{lane_for}
use Rattle.shape.specs.Changes.{Changed, meant, InColumn, InBand}
use Rattle.shape.specs.declared.operand.TableShape.{TableShape}
use Rattle.shape.specs.declared.operand.Column.{Column}
use Rattle.product.specs.Rows.{RowSum, spread}

-- every entry of a run means what `new` says
abbrev pub Run : {S M : Type 0} → (S → M) → (ℕ → M) → List S → Type 0
Run {S = S} means new cur = (i : ℕ) (d : S) → i < length cur → means (slice_index_or cur i d) ≡ new i

-- in a run of columns of r rows: the value at place k means what `new` says of its column l and row i
abbrev pub in_block : {S M : Type 0} → (S → M) → ℕ → (ℕ → ℕ → M) → ℕ → S → Type 0
in_block means r new k v = (l i : ℕ) → i < r → k ≡ l * r + i → means v ≡ new l i

module _ {S M : Type 0} (means : S → M) (o : Ops M) where
  -- row i of a run of columns of r rows, by columns
  abbrev pub run_row : List S → ℕ → ℕ → ℕ → M
  run_row ds r i l = at means o ds (l * r + i)

  -- row i of lane b of a table, by columns
  abbrev pub row_of : TableShape → List S → ℕ → ℕ → ℕ → M
  row_of t ts b i j = at means o ts (cell t b j i)

  -- row i of column v, of the lane that lane b of n reads
  abbrev pub broadcast : Column → List S → ℕ → ℕ → ℕ → M
  broadcast v vs n b i = at means o vs (cell v.of (lane_for b v.of.lanes n) v.col i)

  -- what row i of lane k of column y is `made` of: n columns of the row of t that it reads, lane k's coefficients x k, and its old entry
  abbrev pub row_made : RowSum M → M → TableShape → List S → ℕ → ℕ → (ℕ → ℕ → M) → M → Column → List S → ℕ → ℕ → ℕ → M
  row_made made a t ts start n x b y old k j i =
      made (row_of t ts (lane_for k t.lanes y.of.lanes) i) start n a b (x k) (at means o old (cell y.of k j i))

  -- every row of column y is so made, and nothing else moved
  abbrev pub Applied : RowSum M → M → TableShape → List S → ℕ → ℕ → (ℕ → ℕ → M) → M → Column → List S → List S → Type 0
  Applied made a t ts start n x b y old cur = Changed y.of (InColumn y.col) (meant means (row_made made a t ts start n x b y old)) old cur

  -- by gemv: all columns, and the rows of column x as coefficients
  abbrev pub Gemv : RowSum M → M → TableShape → List S → Column → List S → M → Column → List S → List S → Type 0
  Gemv made a t ts x xs b y old cur = Applied made a t ts 0 t.cols (broadcast x xs y.of.lanes) b y old cur

  -- by gemv_cols: n columns from `start` on, and coefficients that all lanes share
  abbrev pub GemvCols : RowSum M → M → TableShape → List S → ℕ → ℕ → List S → M → Column → List S → List S → Type 0
  GemvCols made a t ts start n xs b y old cur = Applied made a t ts start n (λ _ l. at means o xs l) b y old cur

  -- what cell (i, j) of lane b of table t becomes by ger_cols
  abbrev pub cell_gained : M → List S → Column → List S → TableShape → ℕ → ℕ → List S → ℕ → ℕ → ℕ → M
  cell_gained a xs p ps t start n old b j i = spread o (row_of t old b i) start n a (λ l. at means o xs l) (broadcast p ps t.lanes b i) j

  -- n columns from `start` on became so, and nothing else moved
  abbrev pub GerCols : M → List S → Column → List S → TableShape → ℕ → ℕ → List S → List S → Type 0
  GerCols a xs p ps t start n old cur = Changed t (InBand start n) (meant means (cell_gained a xs p ps t start n old)) old cur

-- The product of a row that is not written yet is that of the old row, so rows are multiplied tile after tile. Assumes nothing.
use Rattle.std.proofs.Common.{◌≡◌, ℕ, ◌+◌, ◌<◌, ◌≤◌, List, map, length, ◌∙◌, inl, inr, arith}
use Rattle.std.proofs.lemmas.Bool.{cases_lt}
use Rattle.scalar.specs.Ops.{Ops}
use Rattle.shape.specs.Shapes.{In, Fits}
use Rattle.shape.specs.Changes.{Changed, meant}
use Rattle.shape.specs.declared.operand.TableShape.{TableShape}
use Rattle.differences.specs.Matrices.{entry_of}
use Rattle.product.specs.Results.{row_of}
use Rattle.differences.specs.MulCols.{cell_multiplied}
use Rattle.differences.specs.Tiles.{InTile, RowsAbove}
use Rattle.differences.specs.declared.matrix.Matrix.{Matrix}
use Rattle.differences.specs.declared.tile.Tile.{Tile}
use Rattle.shape.proofs.Cells.{changed_more}
use Rattle.product.proofs.Entries.{cell_kept}
use Rattle.differences.proofs.RowLaws.{multiplied_cong}

pub multiplied_kept : {S M : Type 0} (means : S → M) (o : Ops M) (t : TableShape) (m : Matrix) (numbers : List S) (D : ℕ → ℕ → ℕ → Type 0) (P : ℕ → ℕ → ℕ → S → Type 0) (old cur : List S)
    → Fits t (length old) → length cur ≡ length old → m.size ≤ t.cols → Changed t D P old cur
    → (b j i : ℕ) → In t b j i → j < m.size → ((l : ℕ) → l < m.size → D b l i → ⊥)
    → cell_multiplied means o t m numbers cur b j i ≡ cell_multiplied means o t m numbers old b j i
multiplied_kept means o t m numbers D P old cur fits len within c b j i w h out =
    multiplied_cong o (row_of means o t cur b i) (row_of means o t old b i) m.size (entry_of o m (map means numbers)) j h
    (λ l n. cell_kept means o t D P old cur fits len c b l i (record { lane = w.lane; col = omega arith; row = w.row }) (out l n))

-- after the rows above a tile, the tile
pub tile_more : {S M : Type 0} (means : S → M) (o : Ops M) (t : TableShape) (m : Matrix) (numbers : List S) (p : Tile) (old cur cur' : List S)
    → Fits t (length old) → length cur ≡ length old → m.size ≤ t.cols
    → Changed t (RowsAbove p.lane p.row m.size) (meant means (cell_multiplied means o t m numbers old)) old cur
    → Changed t (InTile p m.size) (meant means (cell_multiplied means o t m numbers cur)) cur cur'
    → Changed t (RowsAbove p.lane (p.row + p.height) m.size) (meant means (cell_multiplied means o t m numbers old)) old cur'
tile_more means o t m numbers p old cur cur' fits len within before wrote =
    changed_more t (RowsAbove p.lane p.row m.size) (InTile p m.size) (RowsAbove p.lane (p.row + p.height) m.size) _ _ old cur cur'
    (λ b j i w h. elim (cases_lt i p.row) [ inl above ↦ inr ((λ x. omega arith), (h.0, above, h.2)) | inr from ↦ inl (h.0, from, h.1, h.2) ])
    (λ b j i h. (h.0, omega arith, h.2))
    (λ b j i w h. (h.0, h.2, h.3))
    (λ b j i v w h q. q ∙ multiplied_kept means o t m numbers (RowsAbove p.lane p.row m.size) _ old cur fits len within before b j i w h.3 (λ l less x. omega arith))
    before
    wrote

-- Some rows of one lane, staged in work memory a column after the other. Assumes nothing.
use Rattle.std.specs.Prelude.{◌≡◌, ℕ, ◌+◌, ◌*◌, ◌<◌, ◌≤◌, List, map, slice_index_or}
use Rattle.scalar.specs.Ops.{Ops}
use Rattle.shape.specs.Shapes.{cell}
use Rattle.shape.specs.declared.operand.TableShape.{TableShape}
use Rattle.product.specs.Results.{run_row}
use Rattle.differences.specs.Rows.{multiplied}
use Rattle.differences.specs.Matrices.{entry_of}
use Rattle.differences.specs.declared.matrix.Matrix.{Matrix}
use Rattle.differences.specs.declared.tile.Tile.{Tile}

-- the tile has rows, and the table has them
pub record Within (t : TableShape) (p : Tile) : Type 0 where
  pub lane : p.lane < t.lanes
  pub some : 0 < p.height
  pub rows : p.row + p.height ≤ t.rows

-- the tile's rows of the columns below k
abbrev pub InTile : Tile → ℕ → ℕ → ℕ → ℕ → Type 0
InTile p k b j i = (b ≡ p.lane) × (p.row ≤ i) × (i < p.row + p.height) × (j < k)

-- the rows of that lane above row n
abbrev pub RowsAbove : ℕ → ℕ → ℕ → ℕ → ℕ → ℕ → Type 0
RowsAbove lane n k b j i = (b ≡ lane) × (i < n) × (j < k)

-- the work memory holds the tile's rows of the columns below k
abbrev pub Staged : {S : Type 0} → TableShape → List S → Tile → ℕ → List S → Type 0
Staged {S = S} t mem p k work = (l r : ℕ) (d : S) → l < k → r < p.height → slice_index_or work (l * p.height + r) d ≡ slice_index_or mem (cell t p.lane l (p.row + r)) d

-- column j in row r of a staged tile times a matrix
abbrev pub staged_product : {S M : Type 0} → (S → M) → Ops M → List S → ℕ → Matrix → List S → ℕ → ℕ → M
staged_product means o work height m numbers j r = multiplied o (run_row means o work height r) m.size (entry_of o m (map means numbers)) j

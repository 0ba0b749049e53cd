-- Where a cell lies, and which shapes and memories are lawful. Assumes nothing.
use Rattle.std.specs.Prelude.{◌≡◌, ℕ, ◌+◌, ◌*◌, ◌<◌, ◌≤◌, Bool, not, ◌||◌, ◌==◌, nat_le, nat_lt}
use Rattle.shape.specs.declared.operand.TableShape.{TableShape}
use Rattle.shape.specs.declared.operand.Column.{Column}
use Rattle.shape.specs.declared.operand.Band.{Band}

-- where column j of lane b starts
abbrev pub start : TableShape → ℕ → ℕ → ℕ
start t b j = (b * t.cols + j) * t.rows

-- cell (i, j) of lane b
abbrev pub cell : TableShape → ℕ → ℕ → ℕ → ℕ
cell t b j i = (b * t.cols + j) * t.rows + i

-- there is such a cell
pub record In (t : TableShape) (b j i : ℕ) : Type 0 where
  pub lane : b < t.lanes
  pub col : j < t.cols
  pub row : i < t.rows

abbrev pub cells : TableShape → ℕ
cells t = t.rows * t.cols * t.lanes

-- column j of every lane
abbrev pub column_of : TableShape → ℕ → Column
column_of t j = record { of = t; col = j }

-- a vector: the column of a table of one column
abbrev pub whole : ℕ → ℕ → Column
whole rows lanes = column_of (record { rows = rows; cols = 1; lanes = lanes }) 0

-- a column, and all columns, as a band of neighbouring columns
abbrev pub band_of : Column → Band
band_of v = record { of = v.of; first = v.col; count = 1 }

abbrev pub all_of : TableShape → Band
all_of t = record { of = t; first = 0; count = t.cols }

-- ---- the tests

abbrev pub no_lanes : TableShape → Bool
no_lanes t = t.lanes == 0

abbrev pub too_large : TableShape → Bool
too_large t = nat_lt 65536 t.rows || (nat_lt 1024 t.cols || nat_lt 4096 t.lanes)

-- the memory does not hold exactly the shape's scalars
abbrev pub misfit : TableShape → ℕ → Bool
misfit t len = not (len == cells t)

abbrev pub no_column : Column → Bool
no_column v = nat_le v.of.cols v.col

-- ---- what passing them tells

-- a memory of `len` scalars holds a table of the shape t
pub record Fits (t : TableShape) (len : ℕ) : Type 0 where
  pub some : 0 < t.lanes
  pub few_rows : t.rows ≤ 65536
  pub few_cols : t.cols ≤ 1024
  pub few_lanes : t.lanes ≤ 4096
  pub size : len ≡ cells t

-- and v is one of its columns
pub record Lawful (v : Column) (len : ℕ) : Type 0 where
  pub fits : Fits v.of len
  pub within : v.col < v.of.cols

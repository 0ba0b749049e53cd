-- The tests of the table calls that are not the elementwise ones, and what passing them tells. Assumes nothing.
use Rattle.std.specs.Prelude.{◌≡◌, ℕ, ◌*◌, Bool, not, ◌||◌, List, [], ◌∷◌, ◌++◌, ◌==◌}
use Rattle.shape.specs.Shapes.{no_lanes, too_large, misfit, no_column, Fits, Lawful}
use Rattle.shape.specs.Lanes.{no_broadcast}
use Rattle.shape.specs.Operands.{shapes_tests, TablesLawful}
use Rattle.shape.specs.declared.operand.TableShape.{TableShape}
use Rattle.shape.specs.declared.operand.Column.{Column}

-- row or column counts differ
abbrev pub other_counts : TableShape → TableShape → Bool
other_counts x y = not (x.rows == y.rows) || not (x.cols == y.cols)

-- tables x and y read cell by cell into table t
abbrev pub three_tests : TableShape → ℕ → TableShape → ℕ → TableShape → ℕ → List (ℕ × Bool)
three_tests x xl y yl t tl =
    (1, (no_lanes x || no_lanes y) || no_lanes t)
    ∷ (2, (too_large x || too_large y) || too_large t)
    ∷ (3, (misfit x xl || misfit y yl) || misfit t tl)
    ∷ (7, other_counts x t || other_counts y t)
    ∷ (8, no_broadcast x.lanes t.lanes || no_broadcast y.lanes t.lanes) ∷ []

pub record ThreeLawful (x : TableShape) (xl : ℕ) (y : TableShape) (yl : ℕ) (t : TableShape) (tl : ℕ) : Type 0 where
  pub first : TablesLawful x xl t tl
  pub second : TablesLawful y yl t tl

-- the columns of table t read into the lanes of vector v, which has a lane for each column of each lane
abbrev pub columns_tests : TableShape → ℕ → Column → ℕ → List (ℕ × Bool)
columns_tests t tl v vl =
    shapes_tests t tl v.of vl
    ++ ((4, no_column v) ∷ (7, not (t.rows == v.of.rows)) ∷ (8, not (v.of.lanes == t.lanes * t.cols)) ∷ [])

pub record ColumnsLawful (t : TableShape) (tl : ℕ) (v : Column) (vl : ℕ) : Type 0 where
  pub source : Fits t tl
  pub target : Lawful v vl
  pub rows : t.rows ≡ v.of.rows
  pub lanes : v.of.lanes ≡ t.lanes * t.cols

-- vector v read into the diagonals of table t
abbrev pub diagonal_tests : Column → ℕ → TableShape → ℕ → List (ℕ × Bool)
diagonal_tests v vl t tl =
    shapes_tests v.of vl t tl
    ++ ((4, no_column v) ∷ (7, not (t.rows == v.of.rows) || not (t.cols == v.of.rows)) ∷ (8, not (v.of.lanes == t.lanes)) ∷ [])

pub record DiagonalLawful (v : Column) (vl : ℕ) (t : TableShape) (tl : ℕ) : Type 0 where
  pub source : Lawful v vl
  pub target : Fits t tl
  pub rows : t.rows ≡ v.of.rows
  pub cols : t.cols ≡ v.of.rows
  pub lanes : v.of.lanes ≡ t.lanes

-- table x read into the first columns of table y
abbrev pub resize_tests : TableShape → ℕ → TableShape → ℕ → List (ℕ × Bool)
resize_tests x xl y yl = shapes_tests x xl y yl ++ ((7, not (x.rows == y.rows)) ∷ (8, not (x.lanes == y.lanes)) ∷ [])

pub record ResizeLawful (x : TableShape) (xl : ℕ) (y : TableShape) (yl : ℕ) : Type 0 where
  pub source : Fits x xl
  pub target : Fits y yl
  pub rows : x.rows ≡ y.rows
  pub lanes : x.lanes ≡ y.lanes

-- The tests that calls on one operand, or on a source x and a destination y, have in common. Assumes nothing.
use Rattle.std.specs.Prelude.{◌≡◌, ℕ, Bool, false, not, ◌||◌, List, [], ◌∷◌, ◌++◌, ◌==◌}
use Rattle.shape.specs.Shapes.{no_lanes, too_large, misfit, no_column, Fits, Lawful}
use Rattle.shape.specs.Lanes.{no_broadcast}
use Rattle.shape.specs.declared.operand.TableShape.{TableShape}
use Rattle.shape.specs.declared.operand.Column.{Column}

-- a table in a memory of `len` scalars
abbrev pub shape_tests : TableShape → ℕ → List (ℕ × Bool)
shape_tests t len = (1, no_lanes t) ∷ (2, too_large t) ∷ (3, misfit t len) ∷ []

-- two tables, each in its memory
abbrev pub shapes_tests : TableShape → ℕ → TableShape → ℕ → List (ℕ × Bool)
shapes_tests x xl y yl = (1, no_lanes x || no_lanes y) ∷ (2, too_large x || too_large y) ∷ (3, misfit x xl || misfit y yl) ∷ []

-- a column of a table
abbrev pub column_tests : Column → ℕ → List (ℕ × Bool)
column_tests v len = (1, no_lanes v.of) ∷ (2, too_large v.of) ∷ (3, misfit v.of len) ∷ (4, no_column v) ∷ []

-- two columns, each in its memory
abbrev pub two_tests : Column → ℕ → Column → ℕ → List (ℕ × Bool)
two_tests x xl y yl =
    (1, no_lanes x.of || no_lanes y.of)
    ∷ (2, too_large x.of || too_large y.of)
    ∷ (3, misfit x.of xl || misfit y.of yl)
    ∷ (4, no_column x || no_column y) ∷ []

pub record TwoLawful (x : Column) (xl : ℕ) (y : Column) (yl : ℕ) : Type 0 where
  pub source : Lawful x xl
  pub target : Lawful y yl

-- column x read row by row into column y
abbrev pub pair_tests : Column → ℕ → Column → ℕ → List (ℕ × Bool)
pair_tests x xl y yl =
    two_tests x xl y yl ++ ((7, not (x.of.rows == y.of.rows)) ∷ (8, no_broadcast x.of.lanes y.of.lanes) ∷ [])

pub record PairLawful (x : Column) (xl : ℕ) (y : Column) (yl : ℕ) : Type 0 where
  pub source : Lawful x xl
  pub target : Lawful y yl
  pub rows : x.of.rows ≡ y.of.rows
  pub lanes : no_broadcast x.of.lanes y.of.lanes ≡ false

-- table x read cell by cell into table y
abbrev pub table_tests : TableShape → ℕ → TableShape → ℕ → List (ℕ × Bool)
table_tests x xl y yl =
    (1, no_lanes x || no_lanes y)
    ∷ (2, too_large x || too_large y)
    ∷ (3, misfit x xl || misfit y yl)
    ∷ (7, not (x.rows == y.rows) || not (x.cols == y.cols))
    ∷ (8, no_broadcast x.lanes y.lanes) ∷ []

pub record TablesLawful (x : TableShape) (xl : ℕ) (y : TableShape) (yl : ℕ) : Type 0 where
  pub source : Fits x xl
  pub target : Fits y yl
  pub rows : x.rows ≡ y.rows
  pub cols : x.cols ≡ y.cols
  pub lanes : no_broadcast x.lanes y.lanes ≡ false

-- The tests of the matrix-vector calls in their order, and what passing them tells. Assumes nothing.
use Rattle.std.specs.Prelude.{◌≡◌, ℕ, ◌+◌, ◌-◌, ◌≤◌, Bool, not, ◌||◌, List, [], ◌∷◌, ◌==◌, nat_lt}
use Rattle.shape.specs.Shapes.{no_lanes, too_large, misfit, no_column, Fits, Lawful}
use Rattle.shape.specs.Lanes.{no_broadcast}
use Rattle.shape.specs.declared.operand.TableShape.{TableShape}
use Rattle.shape.specs.declared.operand.Column.{Column}
use Rattle.shape.specs.declared.operand.Band.{Band}

-- table t times column x into column y
abbrev pub gemv_tests : TableShape → ℕ → Column → ℕ → Column → ℕ → List (ℕ × Bool)
gemv_tests t tl x xl y yl =
    (1, (no_lanes t || no_lanes x.of) || no_lanes y.of)
    ∷ (2, (too_large t || too_large x.of) || too_large y.of)
    ∷ (3, (misfit t tl || misfit x.of xl) || misfit y.of yl)
    ∷ (4, no_column x || no_column y)
    ∷ (7, not (t.rows == y.of.rows) || not (x.of.rows == t.cols))
    ∷ (8, no_broadcast t.lanes y.of.lanes || no_broadcast x.of.lanes y.of.lanes) ∷ []

pub record GemvLawful (t : TableShape) (tl : ℕ) (x : Column) (xl : ℕ) (y : Column) (yl : ℕ) : Type 0 where
  pub table : Fits t tl
  pub source : Lawful x xl
  pub target : Lawful y yl
  pub rows : t.rows ≡ y.of.rows
  pub cols : x.of.rows ≡ t.cols

-- columns `start` to `end` − 1 of table t, `count` coefficients and column v; a source of `source` lanes is read into `lanes`
abbrev pub range_tests : TableShape → ℕ → ℕ → ℕ → ℕ → Column → ℕ → ℕ → ℕ → List (ℕ × Bool)
range_tests t tl start end count v vl source lanes =
    (1, no_lanes t || no_lanes v.of)
    ∷ (2, too_large t || too_large v.of)
    ∷ (3, misfit t tl || misfit v.of vl)
    ∷ (4, nat_lt t.cols end || (nat_lt end start || no_column v))
    ∷ (5, nat_lt 8 (end - start))
    ∷ (6, nat_lt count (end - start))
    ∷ (7, not (t.rows == v.of.rows))
    ∷ (8, no_broadcast source lanes) ∷ []

-- the column governs the lanes of gemv_cols, the table those of ger_cols
abbrev pub gemv_cols_tests : TableShape → ℕ → ℕ → ℕ → ℕ → Column → ℕ → List (ℕ × Bool)
gemv_cols_tests t tl start end count y yl = range_tests t tl start end count y yl t.lanes y.of.lanes

abbrev pub ger_cols_tests : TableShape → ℕ → ℕ → ℕ → ℕ → Column → ℕ → List (ℕ × Bool)
ger_cols_tests t tl start end count p pl = range_tests t tl start end count p pl p.of.lanes t.lanes

-- n columns from `start` on
pub record RangeLawful (t : TableShape) (tl start n count : ℕ) (v : Column) (vl : ℕ) : Type 0 where
  pub table : Fits t tl
  pub column : Lawful v vl
  pub within : start + n ≤ t.cols
  pub few : n ≤ 8
  pub enough : n ≤ count
  pub rows : t.rows ≡ v.of.rows

-- what gemv and gemv_cols have in common: as many rows of x as columns of the band t
pub record ProductLawful (t : Band) (tl : ℕ) (x : Column) (xl : ℕ) (y : Column) (yl : ℕ) : Type 0 where
  pub table : Fits t.of tl
  pub within : t.first + t.count ≤ t.of.cols
  pub source : Lawful x xl
  pub target : Lawful y yl
  pub rows : t.of.rows ≡ y.of.rows
  pub count : x.of.rows ≡ t.count

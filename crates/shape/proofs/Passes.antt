-- Lawful operands pass the tests of the calls that they are given to. Assumes nothing.
use Rattle.std.proofs.Common.{◌≡◌, ℕ, ◌*◌, ◌/◌, ◌%◌, ◌<◌, Bool, false, cond, not, ◌||◌, eqb, ltb, List, [], ◌∷◌, refl, ap, ◌∙◌, mul-div_cancel, arith, eq-eqb}
use Rattle.std.proofs.lemmas.Bool.{or_from, or_left, not_from_true, le-ltb, lt-leb, ne_eqb}
use Rattle.shape.specs.Shapes.{no_lanes, too_large, misfit, no_column, cells, Fits, Lawful}
use Rattle.shape.specs.Lanes.{lane_for, no_broadcast}
use Rattle.shape.specs.Refusals.{first_of}
use Rattle.shape.specs.Operands.{shape_tests, column_tests, pair_tests, table_tests, TablesLawful}
use Rattle.shape.specs.declared.operand.TableShape.{TableShape}
use Rattle.shape.specs.declared.operand.Column.{Column}
use Rattle.shape.proofs.Verdicts.{Clear}

-- no test fits, so the verdict is acceptance
pub none_fits : (ts : List (ℕ × Bool)) → Clear ts → first_of ts ≡ 0
none_fits [] c = refl
none_fits (t ∷ ts) c = ap (λ z. cond z t.0 (first_of ts)) c.0 ∙ none_fits ts c.1

some_lanes : (t : TableShape) (len : ℕ) → Fits t len → no_lanes t ≡ false
some_lanes t len h = ne_eqb t.lanes 0 (λ e. omega (arith, h.some))

pub not_large : (t : TableShape) (len : ℕ) → Fits t len → too_large t ≡ false
not_large t len h =
    or_from (ltb 65536 t.rows) (ltb 1024 t.cols || ltb 4096 t.lanes) (le-ltb 65536 t.rows h.few_rows)
    (or_from (ltb 1024 t.cols) (ltb 4096 t.lanes) (le-ltb 1024 t.cols h.few_cols) (le-ltb 4096 t.lanes h.few_lanes))

fit : (t : TableShape) (len : ℕ) → Fits t len → misfit t len ≡ false
fit t len h = not_from_true (eqb len (cells t)) (eq-eqb len (cells t) h.size)

same_counts : (a b : ℕ) → a ≡ b → not (eqb a b) ≡ false
same_counts a b e = not_from_true (eqb a b) (eq-eqb a b e)

pub same_lanes : (s n : ℕ) → s ≡ n → no_broadcast s n ≡ false
same_lanes s n e = not_from_true (eqb s n || (eqb s 1 || eqb (n % s) 0)) (or_left (eqb s n) (eqb s 1 || eqb (n % s) 0) (eq-eqb s n e))

-- a lane reads its own where the counts are the same
pub own_lane : (b s n : ℕ) → s ≡ n → 0 < n → lane_for b s n ≡ b
own_lane b s n e h = ap (λ z. b * z / n) e ∙ mul-div_cancel b h

pub shape_passes : (t : TableShape) (len : ℕ) → Fits t len → first_of (shape_tests t len) ≡ 0
shape_passes t len h = none_fits (shape_tests t len) (some_lanes t len h, (not_large t len h, (fit t len h, tt)))

-- what a call on a shape tests first
pub record Sound (t : TableShape) (len : ℕ) : Type 0 where
  pub lanes : no_lanes t ≡ false
  pub large : too_large t ≡ false
  pub size : misfit t len ≡ false

pub sound : (t : TableShape) (len : ℕ) → Fits t len → Sound t len
sound t len f = record { lanes = some_lanes t len f; large = not_large t len f; size = fit t len f }

-- and on two
pub record BothSound (x : TableShape) (xl : ℕ) (y : TableShape) (yl : ℕ) : Type 0 where
  pub lanes : no_lanes x || no_lanes y ≡ false
  pub large : too_large x || too_large y ≡ false
  pub size : misfit x xl || misfit y yl ≡ false

pub both_sound : (x : TableShape) (xl : ℕ) (y : TableShape) (yl : ℕ) → Fits x xl → Fits y yl → BothSound x xl y yl
both_sound x xl y yl fx fy =
    let p = sound x xl fx in
    let q = sound y yl fy in
    record {
      lanes = or_from (no_lanes x) (no_lanes y) p.lanes q.lanes;
      large = or_from (too_large x) (too_large y) p.large q.large;
      size = or_from (misfit x xl) (misfit y yl) p.size q.size;
    }

pub column_there : (v : Column) (len : ℕ) → Lawful v len → no_column v ≡ false
column_there v len l = lt-leb v.of.cols v.col l.within

pub columns_there : (x : Column) (xl : ℕ) (y : Column) (yl : ℕ) → Lawful x xl → Lawful y yl → no_column x || no_column y ≡ false
columns_there x xl y yl lx ly = or_from (no_column x) (no_column y) (column_there x xl lx) (column_there y yl ly)

pub column_passes : (v : Column) (len : ℕ) → Lawful v len → first_of (column_tests v len) ≡ 0
column_passes v len l =
    let s = sound v.of len l.fits in
    none_fits (column_tests v len) (s.lanes, (s.large, (s.size, (column_there v len l, tt))))

pub tables_pass : (x : TableShape) (xl : ℕ) (y : TableShape) (yl : ℕ) → TablesLawful x xl y yl → first_of (table_tests x xl y yl) ≡ 0
tables_pass x xl y yl h =
    let two = both_sound x xl y yl h.source h.target in
    let counts = or_from (not (eqb x.rows y.rows)) (not (eqb x.cols y.cols)) (same_counts x.rows y.rows h.rows) (same_counts x.cols y.cols h.cols) in
    none_fits (table_tests x xl y yl) (two.lanes, (two.large, (two.size, (counts, (h.lanes, tt)))))

pub pair_passes : (x : Column) (xl : ℕ) (y : Column) (yl : ℕ) → Lawful x xl → Lawful y yl → x.of.rows ≡ y.of.rows → x.of.lanes ≡ y.of.lanes → first_of (pair_tests x xl y yl) ≡ 0
pair_passes x xl y yl source target rows lanes =
    let two = both_sound x.of xl y.of yl source.fits target.fits in
    none_fits (pair_tests x xl y yl)
    (two.lanes, (two.large, (two.size, (columns_there x xl y yl source target, (same_counts x.of.rows y.of.rows rows, (same_lanes x.of.lanes y.of.lanes lanes, tt))))))

-- Lawful operands of equal rows and lanes pass the tests of the calls. Assumes nothing.
use Rattle.std.proofs.Common.{◌≡◌, ℕ, ◌+◌, ◌-◌, ◌*◌, ◌<◌, ◌≤◌, false, ltb, leb, List, length, eq-eqb}
use Rattle.std.proofs.lemmas.Bool.{or_from, le-ltb, lt-leb, not_from_true}
use Rattle.shape.specs.Shapes.{misfit, no_column, Fits, Lawful}
use Rattle.shape.specs.Refusals.{first_of}
use Rattle.shape.specs.declared.operand.TableShape.{TableShape}
use Rattle.shape.specs.declared.operand.Column.{Column}
use Rattle.shape.proofs.Passes.{none_fits, same_lanes, sound, both_sound, column_there, columns_there}
use Rattle.index.specs.Indices.{outside}
use Rattle.index.specs.Calls.{gather_tests, scatter_tests}
use Rattle.product.specs.Tests.{gemv_cols_tests}
use Rattle.differences.specs.MulCols.{mul_cols_tests}
use Rattle.differences.specs.Updates.{update_tests}

-- ---- lists

pub gather_passes : (x : Column) (xl : ℕ) (list : List ℕ) (y : Column) (yl : ℕ) → Lawful x xl → Lawful y yl → x.of.lanes ≡ y.of.lanes → length list ≡ y.of.rows
    → outside x.of.rows list ≡ false → first_of (gather_tests x xl list y yl) ≡ 0
gather_passes x xl list y yl lx ly lanes long inside =
    let two = both_sound x.of xl y.of yl lx.fits ly.fits in
    none_fits (gather_tests x xl list y yl)
    (two.lanes, (two.large, (two.size, (columns_there x xl y yl lx ly, (same_lanes x.of.lanes y.of.lanes lanes, (not_from_true _ (eq-eqb (length list) y.of.rows long), (inside, tt)))))))

pub scatter_passes : (x : Column) (xl : ℕ) (list : List ℕ) (y : Column) (yl : ℕ) → Lawful x xl → Lawful y yl → x.of.lanes ≡ y.of.lanes → length list ≡ x.of.rows
    → outside y.of.rows list ≡ false → first_of (scatter_tests x xl list y yl) ≡ 0
scatter_passes x xl list y yl lx ly lanes long inside =
    let two = both_sound x.of xl y.of yl lx.fits ly.fits in
    none_fits (scatter_tests x xl list y yl)
    (two.lanes, (two.large, (two.size, (columns_there x xl y yl lx ly, (same_lanes x.of.lanes y.of.lanes lanes, (not_from_true _ (eq-eqb (length list) x.of.rows long), (inside, tt)))))))

-- ---- columns of a table

pub gemv_cols_passes : (t : TableShape) (tl start end count : ℕ) (v : Column) (vl : ℕ) → Fits t tl → Lawful v vl → start ≤ end → end ≤ t.cols → end - start ≤ 8 → end - start ≤ count
    → t.rows ≡ v.of.rows → t.lanes ≡ v.of.lanes → first_of (gemv_cols_tests t tl start end count v vl) ≡ 0
gemv_cols_passes t tl start end count v vl ft lv ordered within few enough rows lanes =
    let two = both_sound t tl v.of vl ft lv.fits in
    let columns = or_from (ltb t.cols end) _ (le-ltb t.cols end within) (or_from (ltb end start) (no_column v) (le-ltb end start ordered) (column_there v vl lv)) in
    none_fits (gemv_cols_tests t tl start end count v vl) (
      two.lanes,
      (
        two.large,
        (
          two.size,
          (columns, (le-ltb 8 (end - start) few, (le-ltb count (end - start) enough, (not_from_true _ (eq-eqb t.rows v.of.rows rows), (same_lanes t.lanes v.of.lanes lanes, tt))))),
        ),
      ),
    )

pub mul_cols_passes : (t : TableShape) (len k count work : ℕ) → Fits t len → 8 ≤ work → k ≤ t.cols → k ≤ 8 → count ≡ k * k → first_of (mul_cols_tests t len k count work) ≡ 0
mul_cols_passes t len k count work ft room within few exactly =
    let p = sound t len ft in
    none_fits (mul_cols_tests t len k count work) (
      p.lanes,
      (
        p.large,
        (
          or_from (misfit t len) (ltb work 8) p.size (le-ltb work 8 room),
          (le-ltb t.cols k within, (le-ltb 8 k few, (not_from_true _ (eq-eqb count (k * k) exactly), tt))),
        ),
      ),
    )

pub update_passes : (t : TableShape) (len k : ℕ) (d : Column) (dl : ℕ) → Fits t len → Lawful d dl → k + 2 < t.cols → d.of.rows ≡ t.rows → d.of.lanes ≡ t.lanes
    → first_of (update_tests t len k d dl) ≡ 0
update_passes t len k d dl ft ld within rows lanes =
    let two = both_sound t len d.of dl ft ld.fits in
    none_fits (update_tests t len k d dl) (
      two.lanes,
      (
        two.large,
        (
          two.size,
          (
            or_from (leb t.cols (k + 2)) (no_column d) (lt-leb t.cols (k + 2) within) (column_there d dl ld),
            (not_from_true _ (eq-eqb d.of.rows t.rows rows), (same_lanes d.of.lanes t.lanes lanes, tt)),
          ),
        ),
      ),
    )

-- Lawful operands are not refused: the verdicts of the calls that a step back alone makes. Assumes nothing.
use Rattle.std.proofs.Common.{◌≡◌, ℕ, ◌+◌, ◌-◌, ◌<◌, ◌≤◌, false, ltb, leb, List, length, eq-eqb}
use Rattle.std.proofs.lemmas.Bool.{or_from, le-ltb, lt-leb, not_from_true}
use Rattle.shape.specs.Shapes.{no_column, misfit, Fits, Lawful}
use Rattle.shape.specs.Refusals.{first_of}
use Rattle.shape.specs.declared.operand.Column.{Column}
use Rattle.shape.specs.declared.operand.TableShape.{TableShape}
use Rattle.shape.proofs.Passes.{none_fits, same_lanes, sound, both_sound, column_there, columns_there}
use Rattle.index.specs.Indices.{outside}
use Rattle.index.specs.Transposes.{back_tests}
use Rattle.product.specs.Tests.{ger_cols_tests}
use Rattle.differences.specs.Transposes.{transpose_tests}

pub back_accepted : (p : Column) (pl : ℕ) (list : List ℕ) (q : Column) (ql : ℕ) → Lawful p pl → Lawful q ql → p.of.lanes ≡ q.of.lanes
    → length list ≡ p.of.rows → outside q.of.rows list ≡ false → first_of (back_tests p pl list q ql) ≡ 0
back_accepted p pl list q ql first second lanes long inside =
    let two = both_sound p.of pl q.of ql first.fits second.fits in
    none_fits (back_tests p pl list q ql) (
      two.lanes,
      (
        two.large,
        (
          two.size,
          (columns_there p pl q ql first second, (not_from_true _ (eq-eqb p.of.lanes q.of.lanes lanes), (not_from_true _ (eq-eqb (length list) p.of.rows long), (inside, tt)))),
        ),
      ),
    )

pub ger_accepted : (t : TableShape) (tl start end count : ℕ) (v : Column) (vl : ℕ) → Fits t tl → Lawful v vl → end ≤ t.cols → start ≤ end → end - start ≤ 8 → end - start ≤ count
    → t.rows ≡ v.of.rows → v.of.lanes ≡ t.lanes → first_of (ger_cols_tests t tl start end count v vl) ≡ 0
ger_accepted t tl start end count v vl fits law within ordered few enough rows lanes =
    let two = both_sound t tl v.of vl fits law.fits in
    let columns = or_from (ltb t.cols end) _ (le-ltb t.cols end within) (or_from (ltb end start) (no_column v) (le-ltb end start ordered) (column_there v vl law)) in
    none_fits (ger_cols_tests t tl start end count v vl) (
      two.lanes,
      (
        two.large,
        (
          two.size,
          (columns, (le-ltb 8 (end - start) few, (le-ltb count (end - start) enough, (not_from_true _ (eq-eqb t.rows v.of.rows rows), (same_lanes v.of.lanes t.lanes lanes, tt))))),
        ),
      ),
    )

pub transpose_accepted : (t : TableShape) (len k : ℕ) (d : Column) (dl work : ℕ) → Fits t len → Lawful d dl → k + 2 < t.cols → k ≤ 5 → 8 ≤ work
    → t.rows ≡ d.of.rows → t.lanes ≡ d.of.lanes → first_of (transpose_tests t len k d dl work) ≡ 0
transpose_accepted t len k d dl work fits law within few room rows lanes =
    let two = both_sound t len d.of dl fits law.fits in
    let size = or_from (misfit t len) _ (sound t len fits).size (or_from (misfit d.of dl) (ltb work 8) (sound d.of dl law.fits).size (le-ltb work 8 room)) in
    none_fits (transpose_tests t len k d dl work) (
      two.lanes,
      (
        two.large,
        (
          size,
          (
            or_from (leb t.cols (k + 2)) (no_column d) (lt-leb t.cols (k + 2) within) (column_there d dl law),
            (le-ltb 5 k few, (not_from_true _ (eq-eqb t.rows d.of.rows rows), (same_lanes t.lanes d.of.lanes lanes, tt))),
          ),
        ),
      ),
    )

-- Lawful operands of the update's transpose pass the tests of the sum that it makes. Assumes nothing.
use Rattle.std.proofs.Common.{◌≡◌, ℕ, ◌+◌, ◌-◌, ltb, eq-eqb, arith}
use Rattle.std.proofs.lemmas.Bool.{or_from, le-ltb, lt-leb, not_from_true}
use Rattle.shape.specs.Shapes.{no_lanes, too_large, misfit, no_column}
use Rattle.shape.specs.Refusals.{first_of}
use Rattle.shape.specs.declared.operand.Column.{Column}
use Rattle.shape.specs.declared.operand.TableShape.{TableShape}
use Rattle.shape.proofs.Passes.{none_fits, sound}
use Rattle.product.specs.Tests.{gemv_cols_tests}
use Rattle.differences.specs.Transposes.{TransposeLawful}

-- the sum of the columns that a transpose names, with `work` coefficients
pub sum_accepted : (t : TableShape) (len k : ℕ) (d : Column) (dl work : ℕ) → TransposeLawful t len k d dl work → first_of (gemv_cols_tests t len 0 (k + 3) work d dl) ≡ 0
sum_accepted t len k d dl work law =
    let table = sound t len law.fits in
    let column = sound d.of dl law.target.fits in
    none_fits (gemv_cols_tests t len 0 (k + 3) work d dl) (
      or_from (no_lanes t) (no_lanes d.of) table.lanes column.lanes,
      (
        or_from (too_large t) (too_large d.of) table.large column.large,
        (
          or_from (misfit t len) (misfit d.of dl) table.size column.size,
          (
            or_from (ltb t.cols (k + 3)) _ (le-ltb t.cols (k + 3) (omega (arith, law.within))) (or_from (ltb (k + 3) 0) (no_column d) (le-ltb (k + 3) 0 (omega arith)) (lt-leb d.of.cols d.col law.target.within)),
            (
              le-ltb 8 (k + 3 - 0) (omega (arith, law.few)),
              (
                le-ltb work (k + 3 - 0) (omega (arith, law.few, law.room)),
                (
                  not_from_true _ (eq-eqb t.rows d.of.rows law.rows),
                  (law.lanes, tt),
                ),
              ),
            ),
          ),
        ),
      ),
    )

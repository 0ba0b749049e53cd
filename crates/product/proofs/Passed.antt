-- What a verdict of 0 tells of the operands. Assumes nothing.
use Rattle.std.proofs.Common.{◌≡◌, ℕ, not, ◌||◌, eqb, refl}
use Rattle.std.proofs.lemmas.Bool.{or_parts, eqb-true, not-false}
use Rattle.shape.specs.Shapes.{no_lanes, too_large, misfit, no_column}
use Rattle.shape.specs.Refusals.{first_of}
use Rattle.shape.specs.declared.operand.TableShape.{TableShape}
use Rattle.shape.specs.declared.operand.Column.{Column}
use Rattle.shape.proofs.Verdicts.{clear, fits_of, lawful_of}
use Rattle.product.specs.Tests.{gemv_tests, GemvLawful}

pub gemv_passed : (t : TableShape) (tl : ℕ) (x : Column) (xl : ℕ) (y : Column) (yl : ℕ) → first_of (gemv_tests t tl x xl y yl) ≡ 0 → GemvLawful t tl x xl y yl
gemv_passed t tl x xl y yl e =
    let p = clear (gemv_tests t tl x xl y yl) refl e in
    let lanes = or_parts (no_lanes t || no_lanes x.of) (no_lanes y.of) p.0 in
    let lanes' = or_parts (no_lanes t) (no_lanes x.of) lanes.0 in
    let large = or_parts (too_large t || too_large x.of) (too_large y.of) p.1.0 in
    let large' = or_parts (too_large t) (too_large x.of) large.0 in
    let size = or_parts (misfit t tl || misfit x.of xl) (misfit y.of yl) p.1.1.0 in
    let size' = or_parts (misfit t tl) (misfit x.of xl) size.0 in
    let cols = or_parts (no_column x) (no_column y) p.1.1.1.0 in
    let counts = or_parts (not (eqb t.rows y.of.rows)) (not (eqb x.of.rows t.cols)) p.1.1.1.1.0 in
    record {
      table = fits_of t tl lanes'.0 large'.0 size'.0;
      source = lawful_of x xl lanes'.1 large'.1 size'.1 cols.0;
      target = lawful_of y yl lanes.1 large.1 size.1 cols.1;
      rows = eqb-true _ _ (not-false _ counts.0);
      cols = eqb-true _ _ (not-false _ counts.1);
    }

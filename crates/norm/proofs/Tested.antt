-- What an accepted call knows of its operands. Assumes nothing.
use Rattle.std.proofs.Common.{◌≡◌, ℕ, not, ◌||◌, eqb, refl}
use Rattle.std.proofs.lemmas.Bool.{or_parts, eqb-true, not-false}
use Rattle.shape.specs.Refusals.{first_of}
use Rattle.shape.specs.Shapes.{no_lanes, too_large, misfit, no_column}
use Rattle.shape.specs.declared.operand.Column.{Column}
use Rattle.shape.proofs.Verdicts.{clear, lawful_of}
use Rattle.norm.specs.Norms.{norm_tests, NormLawful}

pub norm_passed : (x : Column) (xl : ℕ) (y : Column) (yl : ℕ) (a : Column) (al : ℕ) → first_of (norm_tests x xl y yl a al) ≡ 0 → NormLawful x xl y yl a al
norm_passed x xl y yl a al e =
    let p = clear (norm_tests x xl y yl a al) refl e in
    let l = or_parts (no_lanes x.of || no_lanes y.of) (no_lanes a.of) p.0 in
    let l' = or_parts (no_lanes x.of) (no_lanes y.of) l.0 in
    let b = or_parts (too_large x.of || too_large y.of) (too_large a.of) p.1.0 in
    let b' = or_parts (too_large x.of) (too_large y.of) b.0 in
    let m = or_parts (misfit x.of xl || misfit y.of yl) (misfit a.of al) p.1.1.0 in
    let m' = or_parts (misfit x.of xl) (misfit y.of yl) m.0 in
    let c = or_parts (no_column x || no_column y) (no_column a) p.1.1.1.0 in
    let c' = or_parts (no_column x) (no_column y) c.0 in
    let r = or_parts (not (eqb y.of.rows x.of.rows)) (not (eqb a.of.rows x.of.rows)) p.1.1.1.1.0 in
    record {
      target = lawful_of x xl l'.0 b'.0 m'.0 c'.0;
      second = lawful_of y yl l'.1 b'.1 m'.1 c'.1;
      third = lawful_of a al l.1 b.1 m.1 c.1;
      second_rows = eqb-true _ _ (not-false _ r.0);
      third_rows = eqb-true _ _ (not-false _ r.1);
    }

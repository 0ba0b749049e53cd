-- What an accepted batched call knows of its operands. Assumes nothing.
use Rattle.std.proofs.Common.{◌≡◌, ℕ, not, ◌||◌, eqb, refl}
use Rattle.std.proofs.lemmas.Bool.{or_parts, eqb-true, not-false}
use Rattle.shape.specs.Refusals.{first_of}
use Rattle.shape.specs.Lanes.{no_broadcast}
use Rattle.shape.specs.Shapes.{no_lanes, too_large, misfit, no_column}
use Rattle.shape.specs.declared.operand.Column.{Column}
use Rattle.shape.proofs.Verdicts.{clear, lawful_of}
use Rattle.vector.specs.Batched.{batched_tests, BatchedLawful}

pub batched_passed : (f : Column) (fl : ℕ) (x : Column) (xl : ℕ) (y : Column) (yl : ℕ) → first_of (batched_tests f fl x xl y yl) ≡ 0 → BatchedLawful f fl x xl y yl
batched_passed f fl x xl y yl e =
    let p = clear (batched_tests f fl x xl y yl) refl e in
    let l = or_parts (no_lanes f.of || no_lanes x.of) (no_lanes y.of) p.0 in
    let l' = or_parts (no_lanes f.of) (no_lanes x.of) l.0 in
    let b = or_parts (too_large f.of || too_large x.of) (too_large y.of) p.1.0 in
    let b' = or_parts (too_large f.of) (too_large x.of) b.0 in
    let m = or_parts (misfit f.of fl || misfit x.of xl) (misfit y.of yl) p.1.1.0 in
    let m' = or_parts (misfit f.of fl) (misfit x.of xl) m.0 in
    let c = or_parts (no_column f || no_column x) (no_column y) p.1.1.1.0 in
    let c' = or_parts (no_column f) (no_column x) c.0 in
    let r = or_parts (not (eqb f.of.rows 1)) (not (eqb x.of.rows y.of.rows)) p.1.1.1.1.0 in
    let n = or_parts (not (eqb f.of.lanes y.of.lanes)) (no_broadcast x.of.lanes y.of.lanes) p.1.1.1.1.1.0 in
    record {
      factors = lawful_of f fl l'.0 b'.0 m'.0 c'.0;
      source = lawful_of x xl l'.1 b'.1 m'.1 c'.1;
      target = lawful_of y yl l.1 b.1 m.1 c.1;
      one = eqb-true _ _ (not-false _ r.0);
      each = eqb-true _ _ (not-false _ n.0);
      rows = eqb-true _ _ (not-false _ r.1);
    }

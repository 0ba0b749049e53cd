-- What an accepted table call knows of its operands. Assumes nothing.
use Rattle.std.proofs.Common.{◌≡◌, ℕ, false, not, ◌||◌, eqb, refl}
use Rattle.std.proofs.lemmas.Bool.{or_parts, eqb-true, not-false}
use Rattle.shape.specs.Shapes.{no_lanes, too_large, misfit}
use Rattle.shape.specs.Lanes.{no_broadcast}
use Rattle.shape.specs.Refusals.{first_of}
use Rattle.shape.specs.declared.operand.TableShape.{TableShape}
use Rattle.shape.proofs.Verdicts.{clear, fits_of, shapes_clear}
use Rattle.table.specs.Tests.{other_counts, three_tests, ThreeLawful}

same_count : (a b : ℕ) → not (eqb a b) ≡ false → a ≡ b
same_count a b e = eqb-true a b (not-false _ e)

pub three_passed : (x : TableShape) (xl : ℕ) (y : TableShape) (yl : ℕ) (t : TableShape) (tl : ℕ) → first_of (three_tests x xl y yl t tl) ≡ 0 → ThreeLawful x xl y yl t tl
three_passed x xl y yl t tl e =
    let p = clear (three_tests x xl y yl t tl) refl e in
    let lanes = or_parts (no_lanes x || no_lanes y) (no_lanes t) p.0 in
    let large = or_parts (too_large x || too_large y) (too_large t) p.1.0 in
    let size = or_parts (misfit x xl || misfit y yl) (misfit t tl) p.1.1.0 in
    let sources = shapes_clear x xl y yl lanes.0 large.0 size.0 in
    let target = fits_of t tl lanes.1 large.1 size.1 in
    let counts = or_parts (other_counts x t) (other_counts y t) p.1.1.1.0 in
    let of-x = or_parts (not (eqb x.rows t.rows)) (not (eqb x.cols t.cols)) counts.0 in
    let of-y = or_parts (not (eqb y.rows t.rows)) (not (eqb y.cols t.cols)) counts.1 in
    let broadcast = or_parts (no_broadcast x.lanes t.lanes) (no_broadcast y.lanes t.lanes) p.1.1.1.1.0 in
    record {
      first = record { source = sources.0; target = target; rows = same_count _ _ of-x.0; cols = same_count _ _ of-x.1; lanes = broadcast.0 };
      second = record { source = sources.1; target = target; rows = same_count _ _ of-y.0; cols = same_count _ _ of-y.1; lanes = broadcast.1 };
    }

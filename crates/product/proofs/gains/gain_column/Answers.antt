use Rattle.std.proofs.Common.{length, ◌∙◌, arith}
use Rattle.std.proofs.lemmas.List.{get_or_default}
use Rattle.scalar.proofs.Stored.{at_get, at_part}
use Rattle.shape.proofs.Parts.{length_part, part_changed}
use Rattle.product.proofs.gains.gain_column.Goals as goal

pub returns : goal.returns
returns g c =
    let s = g.S.Scalar in
    let y = c.args.y.now in
    let to = c.args.to in
    let rows = length c.args.p.now in
    let run = c.rewrite.auto.y ∙ length_part y to rows c.requires in
    part_changed to rows _ y c.rewrite.new.y c.requires run
    (λ i e h.
    let old = at_part s.means s.ops to rows i y c.requires h in
    let sum = c.rewrite.ensures i e (omega arith) in
    grind (arith, get_or_default, at_get))

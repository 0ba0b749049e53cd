use Rattle.shape.proofs.Answered.{on_ok}
use Rattle.std.proofs.Common.{◌≡◌, sym, ◌∙◌, arith}
use Rattle.std.proofs.lemmas.List.{get_or_default}
use Rattle.shape.proofs.Parts.{part_get, length_part, part_changed}
use Rattle.vector.specs.Rows.{blend}
use Rattle.vector.proofs.OneLane.{one_lane}
use Rattle.vector.proofs.batch.axpy_part.Goals as goal

pub returns : goal.returns
returns g c =
    let s = g.S.Scalar in
    let xs = c.args.xs.now in
    let ys = c.args.ys.now in
    let from = c.args.from in
    let to = c.args.to in
    let n = c.args.rows in
    let first = length_part xs from n c.requires.source in
    let second = length_part ys to n c.requires.target in
    part_changed to n _ ys c.axpy.new.ys c.requires.target (c.axpy.auto.ys ∙ second)
    (λ i e h d.
    let made = one_lane (λ p q v. s.means v ≡ blend s.ops (s.means c.args.a.0) (s.means p) (s.means c.args.b.0) (s.means q)) c.vector-lane.result n _ _ _ c.axpy.new.ys c.vector-lane.ensures c.requires.few first second c.axpy.ensures.verdict (on_ok c.axpy.result c.axpy.ensures.accepted) i d h in
    let x = part_get from n i xs d c.requires.source h in
    let y = part_get to n i ys d c.requires.target h in
    let v = get_or_default c.axpy.new.ys i e d (omega (arith, c.axpy.auto.ys)) in
    rw (sym x, sym y, v) made)

-- The steps of a staged column that gains.
use Rattle.std.proofs.Common.{◌<◌, length, ap, ◌∙◌, arith}
use Rattle.scalar.specs.Sums.{at}
use Rattle.scalar.proofs.Stored.{at_part}
use Rattle.differences.proofs.tile.gain_staged.Goals as goal

pub returns : goal.returns
returns g c i d h =
    let s = g.S.Scalar in
    let n = length c.args.y.now in
    let below : i < n = omega arith in
    c.loop-i.invariant.done i d (omega arith)
    ∙ ap (λ z. s.ops.plus (at s.means s.ops c.args.y.now i) (s.ops.times z (s.means c.args.by)))
    (at_part s.means s.ops c.args.from n i c.args.staged.now c.requires below)

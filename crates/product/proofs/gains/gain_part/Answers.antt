use Rattle.product.proofs.Updates.{part_gained}
use Rattle.product.proofs.gains.gain_part.Goals as goal

pub returns : goal.returns
returns g c =
    let s = g.S.Scalar in
    part_gained s.means s.ops (s.means c.args.a.0) c.args.x.now c.args.ps.now c.args.ys.now c.args.from c.args.rows c.args.to
    c.requires.source c.requires.target c.gain_columns.new.y c.gain_columns.auto.y c.gain_columns.ensures

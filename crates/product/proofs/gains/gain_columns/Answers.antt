use Rattle.product.proofs.Updates.{gained_more}
use Rattle.product.proofs.gains.gain_columns.Goals as goal

pub loop-l-preserved : goal.loop-l-preserved
loop-l-preserved g c =
    let s = g.S.Scalar in
    gained_more s.means s.ops (s.means c.args.a.0) c.args.x.now c.args.p.now c.args.y.now c.loop-l.y c.gain_column.new.y c.loop-l.l c.index-x-l.result c.mul.result
    c.requires c.loop-l.auto.y c.loop-l-test.true c.index-x-l.is c.mul.ensures c.loop-l.invariant c.gain_column.ensures

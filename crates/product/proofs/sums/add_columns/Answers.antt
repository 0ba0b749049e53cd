use Rattle.product.proofs.ColumnSums.{added_more}
use Rattle.product.proofs.sums.add_columns.Goals as goal

pub loop-l-preserved : goal.loop-l-preserved
loop-l-preserved g c =
    let s = g.S.Scalar in
    added_more s.means s.ops (s.means c.args.a.0) c.args.d.now c.args.x.now c.args.y.now c.loop-l.y c.add_column.new.y c.loop-l.l c.index-x-l.result
    c.loop-l.auto.y c.add_column.auto.y c.loop-l-test.true c.index-x-l.is c.loop-l.invariant c.add_column.ensures

use Rattle.shape.proofs.Answered.{on_ok}
use Rattle.table.proofs.Written.{columns_added}
use Rattle.table.proofs.columns.add_columns.Goals as goal

pub returns : goal.returns
returns g c =
    let s = g.S.Scalar in
    columns_added s.means s.ops c.args.t c.args.ts.now c.args.v c.args.vs.now c.add_assign.new.ys c.vector.result _ c.requires c.vector.ensures c.add_assign.ensures.verdict (on_ok c.add_assign.result c.add_assign.ensures.accepted)

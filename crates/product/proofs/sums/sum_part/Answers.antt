use Rattle.product.proofs.ColumnSums.{part_summed}
use Rattle.product.proofs.sums.sum_part.Goals as goal

pub returns : goal.returns
returns g c =
    let s = g.S.Scalar in
    part_summed s.means s.ops (s.means c.args.a.0) (s.means c.args.b.0) c.args.ds.now c.args.xs.now c.args.ys.now c.args.from c.args.with c.args.to c.args.count c.args.rows
    c.requires.table c.requires.source c.requires.target c.sum_columns.new.y c.sum_columns.auto.y c.sum_columns.ensures

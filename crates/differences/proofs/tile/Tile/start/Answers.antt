use Rattle.std.proofs.Common.{arith}
use Rattle.differences.proofs.Pieces.{start_small, column_start}
use Rattle.differences.proofs.tile.Tile.start.Goals as goal

pub overflow_add-result : goal.overflow_add-result
overflow_add-result c =
    let fits = c.requires.limits.1 in
    let is = column_start c.args.t c.requires.limits.0 c.args.self.lane c.args.col c.start.result c.column.result c.column.ensures c.start.ensures fits c.requires.within.lane c.requires.col in
    let low = start_small c.args.t c.requires.limits.0 c.args.self.lane c.args.col fits c.requires.within.lane (omega arith) in
    omega arith

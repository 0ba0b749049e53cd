use Rattle.shape.proofs.Answered.{on_ok}
use Rattle.std.proofs.Common.{◌<◌, length, ◌∙◌, arith}
use Rattle.shape.specs.Shapes.{column_of, Fits}
use Rattle.shape.proofs.Passes.{pair_passes}
use Rattle.table.proofs.Written.{brought_more}
use Rattle.table.proofs.reshape.resize_cells.Goals as goal

pub loop-j-preserved : goal.loop-j-preserved
loop-j-preserved g c =
    let s = g.S.Scalar in
    let x = c.args.x in
    let xs = c.args.xs.now in
    let y = c.args.y in
    let cur = c.loop-j.ys in
    let j = c.loop-j.j in
    let both : (j < x.cols) × (j < y.cols) = (omega (arith, c.loop-j-test.true, c.min-j-end.ensures), omega (arith, c.loop-j-test.true, c.min-j-end.ensures)) in
    let in-y : Fits y (length cur) = rw (c.loop-j.auto.ys, c.fill.auto.ys) c.requires.target in
    let passes = pair_passes (column_of x j) (length xs) (column_of y j) (length cur) (record { fits = c.requires.source; within = both.0 }) (record { fits = in-y; within = both.1 }) c.requires.rows c.requires.lanes in
    let wrote = rw (c.column.ensures, c.column-in-loop-j.ensures) at c.copy_from.ensures in
    brought_more s.means s.ops x xs y (length xs) (length c.args.ys.now) j cur c.copy_from.new.ys c.requires both.0 c.loop-j.invariant
    (on_ok _ wrote.accepted (wrote.verdict ∙ passes))

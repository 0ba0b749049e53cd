use Rattle.shape.proofs.Answered.{on_ok}
use Rattle.std.proofs.Common.{length, ◌∙◌, arith}
use Rattle.shape.specs.Shapes.{column_of, Fits}
use Rattle.table.proofs.Passes.{copy_passes}
use Rattle.table.proofs.Written.{placed_more}
use Rattle.table.proofs.reshape.place_diagonal.Goals as goal

pub loop-i-preserved : goal.loop-i-preserved
loop-i-preserved g c =
    let s = g.S.Scalar in
    let v = c.args.v in
    let vs = c.args.vs.now in
    let t = c.args.t in
    let cur = c.loop-i.ts in
    let i = c.loop-i.i in
    let h = c.loop-i-test.true in
    let in-t : Fits t (length cur) = rw (c.loop-i.auto.ts, c.fill.auto.ys) c.requires.target in
    let passes = copy_passes v (length vs) (column_of t i) (length cur) i c.requires.source (record { fits = in-t; within = h }) (omega (arith, c.requires.cols)) (omega (arith, c.requires.rows, c.requires.cols)) c.requires.lanes in
    let wrote = rw c.column.ensures at c.copy_from_indices.ensures in
    placed_more s.means s.ops v vs t (length vs) (length c.args.ts.now) i cur c.copy_from_indices.new.ys c.requires c.loop-i.invariant
    (on_ok _ wrote.accepted (wrote.verdict ∙ passes))

use Rattle.std.proofs.Common.{length}
use Rattle.product.proofs.Products.{lane_placed, runs_inside, lane_more}
use Rattle.product.proofs.multiply.band_lanes.Goals as goal

pub sum_part-requires : goal.sum_part-requires
sum_part-requires g c =
    let tl = length c.args.ts.now in
    let xl = length c.args.xs.now in
    let yl = length c.args.ys.now in
    let l = c.loop-lane-test.true in
    let placed = lane_placed c.args.t tl c.args.x xl c.args.y yl c.requires c.loop-lane.lane c.start-from.result c.start-with.result c.start-to.result l
    c.lane_for.result c.lane_for-in-loop-lane.result c.lane_for.ensures c.start-from.ensures c.lane_for-in-loop-lane.ensures c.start-with.ensures c.start-to.ensures in
    let inside = runs_inside c.args.t tl c.args.x xl c.args.y yl c.requires c.loop-lane.lane c.start-from.result c.start-with.result c.start-to.result l placed in
    record { table = inside.table; source = inside.source; target = rw c.loop-lane.auto.ys inside.target }

pub loop-lane-preserved : goal.loop-lane-preserved
loop-lane-preserved g c =
    let s = g.S.Scalar in
    let ts = c.args.ts.now in
    let xs = c.args.xs.now in
    let old = c.args.ys.now in
    let l = c.loop-lane-test.true in
    let placed = lane_placed c.args.t (length ts) c.args.x (length xs) c.args.y (length old) c.requires c.loop-lane.lane c.start-from.result c.start-with.result c.start-to.result l
    c.lane_for.result c.lane_for-in-loop-lane.result c.lane_for.ensures c.start-from.ensures c.lane_for-in-loop-lane.ensures c.start-with.ensures c.start-to.ensures in
    lane_more s.means s.ops (s.means c.args.a.0) (s.means c.args.b.0) c.args.t ts c.args.x xs c.args.y old c.requires
    c.loop-lane.lane c.start-from.result c.start-with.result c.start-to.result c.loop-lane.ys c.sum_part.new.ys l c.loop-lane.auto.ys placed c.loop-lane.invariant c.sum_part.ensures

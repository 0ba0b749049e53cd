use Rattle.std.proofs.Common.{◌≤◌, length, arith}
use Rattle.shape.proofs.Broadcast.{reads_from}
use Rattle.product.proofs.Updates.{runs_inside, spread_more}
use Rattle.product.proofs.outer.spread_lanes.Goals as goal

pub gain_part-requires : goal.gain_part-requires
gain_part-requires g c =
    let t = c.args.t in
    let p = c.args.p in
    let tl = length c.args.ts.now in
    let pl = length c.args.ps.now in
    let lane = c.loop-lane.lane in
    let l = c.loop-lane-test.true in
    let from = reads_from p pl t.lanes lane c.lane_for.result c.start-from.result c.requires.column l c.requires.table.few_lanes c.lane_for.ensures c.start-from.ensures in
    let first : c.args.start ≤ t.cols = omega (arith, c.requires.within) in
    let to = c.start.ensures tl c.requires.table first l in
    let inside = runs_inside t tl c.args.start (length c.args.x.now) p pl lane c.start-from.result c.start.result c.requires l from to in
    record { source = inside.source; target = rw c.loop-lane.auto.ts inside.target }

pub loop-lane-preserved : goal.loop-lane-preserved
loop-lane-preserved g c =
    let s = g.S.Scalar in
    let t = c.args.t in
    let p = c.args.p in
    let ps = c.args.ps.now in
    let old = c.args.ts.now in
    let lane = c.loop-lane.lane in
    let l = c.loop-lane-test.true in
    let from = reads_from p (length ps) t.lanes lane c.lane_for.result c.start-from.result c.requires.column l c.requires.table.few_lanes c.lane_for.ensures c.start-from.ensures in
    let first : c.args.start ≤ t.cols = omega (arith, c.requires.within) in
    let to = c.start.ensures (length old) c.requires.table first l in
    spread_more s.means s.ops (s.means c.args.a.0) c.args.x.now p ps t c.args.start old c.requires
    lane c.start-from.result c.start.result c.loop-lane.ts c.gain_part.new.ys l c.loop-lane.auto.ts from to c.loop-lane.invariant c.gain_part.ensures

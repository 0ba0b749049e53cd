use Rattle.std.proofs.Common.{◌∙◌, arith}
use Rattle.shape.specs.Changes.{LanesBand}
use Rattle.shape.proofs.Cells.{lane_more}
use Rattle.differences.proofs.MulColsLaws.{multiplied_kept}
use Rattle.differences.proofs.multiply.multiply_lanes.Goals as goal

pub loop-lane-preserved : goal.loop-lane-preserved
loop-lane-preserved g c =
    let s = g.S.Scalar in
    let t = c.args.t in
    let m = c.args.m in
    let n = c.loop-lane.lane in
    let old = c.args.ts.now in
    let cur = c.loop-lane.ts in
    lane_more t n 0 m.size _ _ old cur c.multiply_lane.new.ts
    (λ j i v w low high q. q ∙ multiplied_kept s.means s.ops t m c.args.numbers.now (LanesBand n 0 m.size) _ old cur c.requires.fits c.loop-lane.auto.ts c.requires.within c.loop-lane.invariant n j i w (omega arith) (λ l less x. omega arith))
    c.loop-lane.invariant
    c.multiply_lane.ensures

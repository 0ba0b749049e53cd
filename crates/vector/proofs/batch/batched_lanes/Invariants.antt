use Rattle.shape.specs.Changes.{Changed, LanesBand}
use Rattle.vector.specs.Batched.{batched}
use Rattle.vector.proofs.batch.batched_lanes.Given as goal

abbrev pub invariant-loop-lane : goal.invariant-loop-lane
invariant-loop-lane g l =
    let s = g.S.Scalar in
    Changed l.y.of (LanesBand l.lane l.y.col 1) (batched s.means s.ops l.factors l.fs l.x l.xs (s.means l.b.0) l.y l.initial.ys) l.initial.ys l.ys

use Rattle.shape.specs.Changes.{Changed, LanesBand, meant}
use Rattle.differences.specs.MulCols.{cell_multiplied}
use Rattle.differences.proofs.multiply.multiply_lanes.Given as goal

abbrev pub invariant-loop-lane : goal.invariant-loop-lane
invariant-loop-lane g l =
    let s = g.S.Scalar in
    Changed l.t (LanesBand l.lane 0 l.m.size) (meant s.means (cell_multiplied s.means s.ops l.t l.m l.numbers l.initial.ts)) l.initial.ts l.ts

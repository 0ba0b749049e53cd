use Rattle.std.proofs.Common.{◌+◌}
use Rattle.shape.specs.Changes.{Changed, LanesBand, meant}
use Rattle.differences.specs.Updates.{cell_updated}
use Rattle.differences.proofs.update.update_lanes.Given as goal

abbrev pub invariant-loop-lane : goal.invariant-loop-lane
invariant-loop-lane g l =
    let s = g.S.Scalar in
    Changed l.t (LanesBand l.lane 0 (l.order + 3)) (meant s.means (cell_updated s.means s.ops l.t l.order l.d l.ds l.initial.ts)) l.initial.ts l.ts

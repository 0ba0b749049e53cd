use Rattle.std.proofs.Common.{length}
use Rattle.shape.specs.Changes.{Changed, LanesBand, meant}
use Rattle.product.specs.Results.{cell_gained}
use Rattle.product.proofs.outer.spread_lanes.Given as goal

abbrev pub invariant-loop-lane : goal.invariant-loop-lane
invariant-loop-lane g l =
    let s = g.S.Scalar in
    Changed l.t (LanesBand l.lane l.start (length l.x))
    (meant s.means
    (cell_gained s.means s.ops (s.means l.a.0) l.x l.p l.ps l.t l.start (length l.x) l.initial.ts))
    l.initial.ts l.ts

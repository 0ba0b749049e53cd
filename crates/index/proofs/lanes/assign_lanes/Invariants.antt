use Rattle.std.proofs.Common.{◌≡◌}
use Rattle.shape.specs.Changes.{Changed, LanesBand}
use Rattle.index.specs.Indices.{settled}
use Rattle.index.specs.Calls.{held}
use Rattle.index.proofs.lanes.assign_lanes.Given as goal

abbrev pub invariant-loop-lane : goal.invariant-loop-lane
invariant-loop-lane g l =
    Changed l.y.of (LanesBand l.lane l.y.col 1) (λ b j k v. (d : g.row.S.Denot) → v ≡ settled l.list 0 k (λ i. l.value) (held l.y l.initial.ys b d k)) l.initial.ys l.ys

use Rattle.std.proofs.Common.{◌≡◌}
use Rattle.shape.specs.Changes.{Changed, LanesBand}
use Rattle.index.specs.Routes.{became}
use Rattle.index.specs.Calls.{read, held}
use Rattle.index.proofs.lanes.route_lanes.Given as goal

abbrev pub invariant-loop-lane : goal.invariant-loop-lane
invariant-loop-lane g l =
    Changed l.y.of (LanesBand l.lane l.y.col 1)
    (λ b j k v. (d : g.row.S.Denot) → v ≡ became l.route l.list (read l.x l.xs l.y b d) (held l.y l.initial.ys b d k) k) l.initial.ys l.ys

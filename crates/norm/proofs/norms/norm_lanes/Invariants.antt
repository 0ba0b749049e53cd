use Rattle.std.proofs.Common.{◌≡◌}
use Rattle.norm.specs.Norms.{greatest, lane_norm}
use Rattle.norm.proofs.norms.norm_lanes.Given as goal

abbrev pub invariant-loop-lane : goal.invariant-loop-lane
invariant-loop-lane g l =
    let s = g.S.Ordered in
    s.means l.most ≡ greatest s.ops s.order (lane_norm s.means s.ops s.order l.x l.xs l.y l.ys l.atol l.atols (s.means l.rtol)) l.lane

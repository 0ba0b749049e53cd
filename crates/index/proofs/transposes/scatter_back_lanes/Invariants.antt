use Rattle.std.proofs.Common.{◌≡◌}
use Rattle.shape.specs.Changes.{Changed, LanesBand}
use Rattle.index.specs.Transposes.{scattered_back, lane}
use Rattle.index.proofs.transposes.scatter_back_lanes.Given as goal

abbrev pub invariant-loop-lane : goal.invariant-loop-lane
invariant-loop-lane g l =
    let s = g.S.Scalar in
    Changed l.p.of (LanesBand l.lane l.p.col 1)
    (λ b j k v. (d : g.row.S.Denot) → s.means v ≡ (scattered_back s.ops l.list 0 (lane s.means l.p l.initial.ps b d) (lane s.means l.q l.initial.qs b d)).0 k) l.initial.ps l.ps
    × Changed l.q.of (LanesBand l.lane l.q.col 1)
    (λ b j k v. (d : g.row.S.Denot) → s.means v ≡ (scattered_back s.ops l.list 0 (lane s.means l.p l.initial.ps b d) (lane s.means l.q l.initial.qs b d)).1 k) l.initial.qs l.qs

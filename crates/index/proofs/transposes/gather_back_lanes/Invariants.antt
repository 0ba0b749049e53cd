use Rattle.std.proofs.Common.{◌≡◌}
use Rattle.shape.specs.Changes.{Changed, LanesBand}
use Rattle.index.specs.Transposes.{gathered_back, lane}
use Rattle.index.proofs.transposes.gather_back_lanes.Given as goal

abbrev pub invariant-loop-lane : goal.invariant-loop-lane
invariant-loop-lane g l =
    let s = g.S.Scalar in
    Changed l.q.of (LanesBand l.lane l.q.col 1)
    (λ b j k v. (d : g.row.S.Denot) → s.means v ≡ gathered_back s.ops l.list 0 (lane s.means l.p l.ps b d) (lane s.means l.q l.initial.qs b d) k) l.initial.qs l.qs

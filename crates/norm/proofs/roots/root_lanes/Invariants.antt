use Rattle.norm.specs.Roots.{lane0, lane1, Agree}
use Rattle.norm.proofs.roots.root_lanes.Given as goal

abbrev pub invariant-loop-lane : goal.invariant-loop-lane
invariant-loop-lane g l =
    let s = g.S.Ordered in
    Agree s.ops s.order (lane0 s.means s.ops l.g0 l.g0s) (lane1 s.means s.ops l.g0 l.g1 l.g1s) l.g0.of.rows l.lane

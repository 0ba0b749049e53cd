use Rattle.std.proofs.Common.{◌≡◌, ℕ, ◌<◌}
use Rattle.scalar.specs.Sums.{at}
use Rattle.state.specs.Memory.{shown}
use Rattle.pairing.specs.Pairings.{lane_pairing}
use Rattle.pairing.proofs.pair_lanes.Given as goal

abbrev pub invariant-loop-lane : goal.invariant-loop-lane
invariant-loop-lane g l =
    let s = g.S.Scalar in
    (b : ℕ) → b < l.lane → at s.means s.ops l.sums b ≡ lane_pairing s.means s.ops l.t (shown l.state) (shown l.weights) b

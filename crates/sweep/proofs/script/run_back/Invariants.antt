use Rattle.std.proofs.Common.{◌≡◌, ℕ, ◌+◌, List, length, drop}
use Rattle.steps.specs.Lanes.{RunBack}
use Rattle.state.specs.Memory.{held, SameLoan, lane_of}
use Rattle.sweep.proofs.Runs.{steps}
use Rattle.sweep.proofs.script.run_back.Given as goal

abbrev pub invariant-loop : goal.invariant-loop
invariant-loop g l =
    let s = g.S.Scalar in
    let t = l.initial.turned.shape in
    (l.turned.left + l.counter ≡ length l.script.steps.now) × (l.turned.shape ≡ t) × SameLoan l.initial.weights l.weights
    × ((ks : List ℕ) × RunBack s.ops t.rows t.cols t.lanes (lane_of s.means s.ops t) (steps s.means s.ops t l.script (drop l.turned.left l.script.steps.now)) ks
    (held l.initial.weights) (held l.weights))

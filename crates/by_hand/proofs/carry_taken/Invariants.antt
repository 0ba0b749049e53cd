use Rattle.std.proofs.Common.{◌≡◌, ℕ, ◌+◌, List, map, take, drop}
use Rattle.state.specs.Memory.{held, SameLoan, step_of}
use Rattle.by_hand.proofs.Chains.{Back}
use Rattle.by_hand.proofs.carry_taken.Given as goal

abbrev pub invariant-loop : goal.invariant-loop
invariant-loop g l =
    let s = g.S.Scalar in
    let t = l.initial.turned.shape in
    let n = l.initial.turned.left in
    (l.turned.left + l.counter ≡ n) × (l.turned.shape ≡ t) × SameLoan l.initial.weights l.weights
    × ((ks : List ℕ) × Back s.means s.ops t (map (λ x. step_of s.means x l.script) (drop l.turned.left (take n l.script.steps.now))) ks (held l.initial.weights) (held l.weights))

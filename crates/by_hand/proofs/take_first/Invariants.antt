use Rattle.std.proofs.Common.{◌≡◌, map, take}
use Rattle.shape.specs.Refusals.{answer}
use Rattle.state.specs.Memory.{held, SameLoan}
use Rattle.by_hand.specs.Firsts.{first_steps}
use Rattle.by_hand.proofs.Chains.{Forward}
use Rattle.by_hand.proofs.take_first.Given as goal

abbrev pub invariant-loop-answer : goal.invariant-loop-answer
invariant-loop-answer g l =
    let s = g.S.Scalar in
    let t = l.initial.sweep.shape in
    (l.sweep.taken ≡ l.answer-index) × (l.sweep.shape ≡ t) × SameLoan l.initial.state l.state
    × Forward s.means s.ops t (first_steps s.means l.script l.answer-index) (map answer (take l.answer-index l.answers)) (held l.initial.state) (held l.state)

use Rattle.std.proofs.Common.{◌≡◌, map, take}
use Rattle.shape.specs.Refusals.{answer}
use Rattle.steps.specs.Lanes.{RunForward}
use Rattle.state.specs.Memory.{held, SameLoan, lane_of}
use Rattle.sweep.proofs.Runs.{steps}
use Rattle.sweep.proofs.script.run_forward.Given as goal

abbrev pub invariant-loop-answer : goal.invariant-loop-answer
invariant-loop-answer g l =
    let s = g.S.Scalar in
    let t = l.initial.sweep.shape in
    (l.sweep.taken ≡ l.answer-index) × (l.sweep.shape ≡ t) × SameLoan l.initial.state l.state
    × RunForward s.ops t.rows t.cols t.lanes (lane_of s.means s.ops t) (steps s.means s.ops t l.script (take l.answer-index l.script.steps.now)) (map answer (take l.answer-index l.answers))
    (held l.initial.state) (held l.state)

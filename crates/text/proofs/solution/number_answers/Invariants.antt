use Rattle.std.proofs.Common.{◌≡◌, map, take}
use Rattle.shape.specs.Refusals.{answer}
use Rattle.text.proofs.solution.number_answers.Given as goal

abbrev pub invariant-loop-place : goal.invariant-loop-place
invariant-loop-place l = take l.place l.numbers ≡ map answer (take l.place l.answers)

use Rattle.std.proofs.Common.{take}
use Rattle.text.specs.Lines.{Written, step_lines}
use Rattle.text.proofs.lines.put_steps.Given as goal

abbrev pub invariant-loop-place : goal.invariant-loop-place
invariant-loop-place l = Written l.initial.out l.out l.at (step_lines 0 (take l.place l.numbers)) l.here

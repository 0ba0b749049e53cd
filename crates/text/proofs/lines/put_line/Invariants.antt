use Rattle.std.proofs.Common.{take}
use Rattle.text.specs.Lines.{Written, tabbed}
use Rattle.text.proofs.lines.put_line.Given as goal

abbrev pub invariant-loop-number : goal.invariant-loop-number
invariant-loop-number l = Written l.initial.out l.out l.initial.here (tabbed (take l.number-index l.numbers)) l.here

use Rattle.std.proofs.Common.{◌≡◌, ◌+◌, ◌-◌, ◌≤◌, length, take}
use Rattle.lex.specs.Lines.{more}
use Rattle.lex.proofs.Progress.{ReadSoFar}
use Rattle.lex.proofs.fields.read_fields.Given as goal

abbrev pub invariant-loop-n : goal.invariant-loop-n
invariant-loop-n g l = ReadSoFar g.F.Field.rule (more l.rest) l.most l.initial.to l.to l.at l.n l.left × (l.n + length l.left ≤ length l.rest) × (l.n ≤ l.most) × (length l.to ≡ length l.initial.to) × (take l.at l.to ≡ take l.at l.initial.to)

abbrev pub decreases-loop-n : goal.decreases-loop-n
decreases-loop-n g l = l.most - l.n

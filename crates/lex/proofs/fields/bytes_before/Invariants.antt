use Rattle.std.proofs.Common.{◌≡◌, ◌+◌, length}
use Rattle.lex.specs.Lines.{before}
use Rattle.lex.proofs.fields.bytes_before.Given as goal

abbrev pub invariant-loop-rest : goal.invariant-loop-rest
invariant-loop-rest l = (l.n + before l.mark l.rest ≡ before l.mark l.text) × (l.n + length l.rest ≡ length l.text)

abbrev pub decreases-loop-rest : goal.decreases-loop-rest
decreases-loop-rest l = length l.rest

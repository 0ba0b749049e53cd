use Rattle.std.proofs.Common.{◌≡◌, ◌-◌, ◌^◌, ◌<◌, ◌≤◌, length}
use Rattle.lex.specs.Numbers.{spelt}
use Rattle.lex.proofs.numbers.number.Given as goal

abbrev pub invariant-loop-rest : goal.invariant-loop-rest
invariant-loop-rest l = (spelt l.n l.rest ≡ spelt 0 l.text) × (length l.rest ≤ 10) × (l.n < 10 ^ (10 - length l.rest))

abbrev pub decreases-loop-rest : goal.decreases-loop-rest
decreases-loop-rest l = length l.rest

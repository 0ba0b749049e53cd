use Rattle.std.proofs.Common.{◌≤◌, length}
use Rattle.konsjift.proofs.fill.Given as goal

abbrev pub invariant-loop : goal.invariant-loop
invariant-loop g l = l.len ≤ length l.buffer

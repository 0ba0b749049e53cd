use Rattle.std.proofs.Common.{◌≡◌, take}
use Rattle.index.specs.Indices.{outside}
use Rattle.index.proofs.check.part_has_outside.Given as goal

abbrev pub invariant-loop-k : goal.invariant-loop-k
invariant-loop-k l = l.found ≡ outside l.rows (take l.k-index l.part)

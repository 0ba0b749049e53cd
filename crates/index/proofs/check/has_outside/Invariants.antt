use Rattle.std.proofs.Common.{◌≡◌, length}
use Rattle.index.specs.Indices.{outside}
use Rattle.index.proofs.check.has_outside.Given as goal

abbrev pub invariant-loop-part : goal.invariant-loop-part
invariant-loop-part l = outside l.rows l.left ≡ outside l.rows l.list

abbrev pub decreases-loop-part : goal.decreases-loop-part
decreases-loop-part l = length l.left

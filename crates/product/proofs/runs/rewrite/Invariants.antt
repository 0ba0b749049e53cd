use Rattle.std.proofs.Common.{get_or}
use Rattle.shape.proofs.Parts.{Filled}
use Rattle.product.proofs.runs.rewrite.Given as goal

abbrev pub invariant-loop-i : goal.invariant-loop-i
invariant-loop-i g l = Filled (λ k v. goal.F-post g l.f k (get_or l.initial.y k v) v) l.initial.y l.y l.i

use Rattle.std.proofs.Common.{◌≡◌}
use Rattle.shape.proofs.Parts.{Filled}
use Rattle.differences.proofs.total.fill_ones.Given as goal

abbrev pub invariant-loop-c : goal.invariant-loop-c
invariant-loop-c g l = let s = g.S.Scalar in Filled (λ k v. s.means v ≡ s.ops.one) l.initial.work l.work l.c-index

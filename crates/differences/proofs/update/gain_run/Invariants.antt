use Rattle.std.proofs.Common.{◌≡◌}
use Rattle.scalar.specs.Sums.{at}
use Rattle.shape.proofs.Parts.{Filled}
use Rattle.differences.proofs.update.gain_run.Given as goal

abbrev pub invariant-loop-i : goal.invariant-loop-i
invariant-loop-i g l =
    let s = g.S.Scalar in
    Filled (λ k v. s.means v ≡ s.ops.plus (at s.means s.ops l.initial.v-items k) (at s.means s.ops l.right k)) l.initial.v-items l.v-items l.i

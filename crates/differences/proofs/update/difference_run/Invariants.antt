use Rattle.std.proofs.Common.{◌≡◌, ◌+◌}
use Rattle.scalar.specs.Sums.{at}
use Rattle.shape.specs.Changes.{RunChanged}
use Rattle.differences.proofs.update.difference_run.Given as goal

abbrev pub invariant-loop-i : goal.invariant-loop-i
invariant-loop-i g l =
    let s = g.S.Scalar in
    RunChanged l.to l.i (λ k v. s.means v ≡ s.ops.plus (at s.means s.ops l.d k) (s.ops.minus (at s.means s.ops l.initial.ts (l.before + k)))) l.initial.ts l.ts

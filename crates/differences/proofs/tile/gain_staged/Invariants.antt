use Rattle.std.proofs.Common.{◌≡◌}
use Rattle.scalar.specs.Sums.{at}
use Rattle.shape.proofs.Parts.{Filled}
use Rattle.differences.proofs.tile.gain_staged.Given as goal

abbrev pub invariant-loop-i : goal.invariant-loop-i
invariant-loop-i g l =
    let s = g.S.Scalar in
    Filled (λ k v. s.means v ≡ s.ops.plus (at s.means s.ops l.initial.y k) (s.ops.times (at s.means s.ops l.column k) (s.means l.by))) l.initial.y l.y l.i

use Rattle.std.proofs.Common.{◌≡◌}
use Rattle.shape.proofs.Parts.{Filled}
use Rattle.differences.proofs.tile.clear.Given as goal

abbrev pub invariant-loop-i : goal.invariant-loop-i
invariant-loop-i g l =
    let s = g.S.Scalar in
    Filled (λ k v. s.means v ≡ s.ops.zero) l.initial.y l.y l.i

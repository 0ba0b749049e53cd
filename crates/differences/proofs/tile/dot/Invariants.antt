use Rattle.std.proofs.Common.{◌≡◌, map}
use Rattle.scalar.specs.Sums.{sum}
use Rattle.differences.specs.Matrices.{entry_of}
use Rattle.product.specs.Results.{run_row}
use Rattle.differences.proofs.tile.dot.Given as goal

abbrev pub invariant-loop-l : goal.invariant-loop-l
invariant-loop-l g l =
    let s = g.S.Scalar in
    s.means l.sum ≡ sum s.ops (λ i. s.ops.times (run_row s.means s.ops l.staged l.height l.r i) (entry_of s.ops l.m (map s.means l.numbers) l.j i)) l.l

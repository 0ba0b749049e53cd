use Rattle.std.proofs.Common.{length, map}
use Rattle.product.specs.Results.{Run}
use Rattle.differences.specs.Matrices.{entry_of}
use Rattle.differences.proofs.Staging.{product_to}
use Rattle.differences.proofs.tile.write_by_columns.Given as goal

abbrev pub invariant-loop-l : goal.invariant-loop-l
invariant-loop-l g l =
    let s = g.S.Scalar in
    Run s.means (λ i. product_to s.means s.ops l.staged (length l.initial.y) (entry_of s.ops l.m (map s.means l.numbers) l.j) i l.l) l.y

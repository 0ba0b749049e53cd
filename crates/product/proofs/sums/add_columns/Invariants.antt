use Rattle.std.proofs.Common.{length}
use Rattle.scalar.specs.Sums.{at, sum_from}
use Rattle.product.specs.Results.{Run}
use Rattle.product.proofs.ColumnSums.{term}
use Rattle.product.proofs.sums.add_columns.Given as goal

abbrev pub invariant-loop-l : goal.invariant-loop-l
invariant-loop-l g l =
    let s = g.S.Scalar in
    Run s.means (λ i. sum_from s.ops (at s.means s.ops l.initial.y i) (term s.means s.ops (s.means l.a.0) l.d l.x (length l.initial.y) i) l.l) l.y

use Rattle.std.proofs.Common.{◌≡◌}
use Rattle.scalar.specs.Sums.{at}
use Rattle.shape.specs.Shapes.{cell}
use Rattle.steps.specs.States.{columns_from}
use Rattle.pairing.proofs.pair_table.Given as goal

abbrev pub invariant-loop-j : goal.invariant-loop-j
invariant-loop-j g l =
    let s = g.S.Scalar in
    s.means l.sum ≡ columns_from s.ops l.t.rows s.ops.zero (λ j i. s.ops.times (at s.means s.ops l.ds (cell l.t l.lane j i)) (at s.means s.ops l.es (cell l.t l.lane j i))) l.j

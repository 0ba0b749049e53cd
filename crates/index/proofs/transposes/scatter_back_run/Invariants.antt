use Rattle.index.proofs.Backs.{Returning}
use Rattle.index.proofs.transposes.scatter_back_run.Given as goal

abbrev pub invariant-loop-i : goal.invariant-loop-i
invariant-loop-i g l =
    let s = g.S.Scalar in
    Returning s.means s.ops l.list l.initial.p l.p l.initial.q l.q l.i-iterator.iter.count l.i-iterator.iter.iter.rest.now

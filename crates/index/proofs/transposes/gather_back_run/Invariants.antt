use Rattle.index.proofs.Backs.{GatheringBack}
use Rattle.index.proofs.transposes.gather_back_run.Given as goal

abbrev pub invariant-loop-i : goal.invariant-loop-i
invariant-loop-i g l = let s = g.S.Scalar in GatheringBack s.means s.ops l.list l.p l.initial.q l.q l.i

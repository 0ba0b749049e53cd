use Rattle.table.proofs.Written.{Placed}
use Rattle.table.proofs.reshape.place_diagonal.Given as goal

abbrev pub invariant-loop-i : goal.invariant-loop-i
invariant-loop-i g l = let s = g.S.Scalar in Placed s.means s.ops l.v l.vs l.t l.i l.ts

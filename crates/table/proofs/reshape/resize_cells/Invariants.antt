use Rattle.table.proofs.Written.{Brought}
use Rattle.table.proofs.reshape.resize_cells.Given as goal

abbrev pub invariant-loop-j : goal.invariant-loop-j
invariant-loop-j g l = let s = g.S.Scalar in Brought s.means s.ops l.x l.xs l.y l.j l.ys

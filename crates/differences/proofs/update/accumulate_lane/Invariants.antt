use Rattle.differences.specs.Updates.{Accumulated}
use Rattle.differences.proofs.update.accumulate_lane.Given as goal

abbrev pub invariant-loop-j : goal.invariant-loop-j
invariant-loop-j g l = let s = g.S.Scalar in Accumulated s.means s.ops l.t l.lane l.n l.j l.initial.ts l.ts

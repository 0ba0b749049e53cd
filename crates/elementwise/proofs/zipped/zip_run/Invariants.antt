use Rattle.std.proofs.Common.{get_or}
use Rattle.shape.proofs.Parts.{Filled}
use Rattle.elementwise.proofs.zipped.zip_run.Given as goal

abbrev pub invariant-loop-i : goal.invariant-loop-i
invariant-loop-i g l = Filled (λ k v. (d : g.row.S.Denot) → g.R.Rule.made l.rule (get_or l.x k d) (get_or l.initial.y k d) v) l.initial.y l.y l.i

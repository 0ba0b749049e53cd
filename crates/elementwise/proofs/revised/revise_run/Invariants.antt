use Rattle.std.proofs.Common.{get_or}
use Rattle.shape.proofs.Parts.{Filled}
use Rattle.elementwise.proofs.revised.revise_run.Given as goal

abbrev pub invariant-loop-entry : goal.invariant-loop-entry
invariant-loop-entry g l = Filled (λ k v. (d : g.row.S.Denot) → g.R.Revision.made l.rule (get_or l.initial.y k d) v) l.initial.y l.y l.entry-index

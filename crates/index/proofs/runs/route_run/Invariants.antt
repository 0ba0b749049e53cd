use Rattle.std.proofs.Common.{get_or}
use Rattle.index.proofs.Settles.{Routing}
use Rattle.index.proofs.runs.route_run.Given as goal

abbrev pub invariant-loop-i : goal.invariant-loop-i
invariant-loop-i g l = Routing l.route (λ d i. get_or l.x i d) l.list l.initial.y l.y l.i

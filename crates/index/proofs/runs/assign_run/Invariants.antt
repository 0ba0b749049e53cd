use Rattle.index.proofs.Settles.{Settling}
use Rattle.index.proofs.runs.assign_run.Given as goal

abbrev pub invariant-loop-k : goal.invariant-loop-k
invariant-loop-k g l = Settling (λ d p. l.value) l.list l.initial.y l.y l.k-index

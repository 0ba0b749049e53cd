use Rattle.std.proofs.Common.{◌<◌, length, get_or, refl, arith}
use Rattle.index.proofs.Settles.{settling_more}
use Rattle.index.proofs.runs.assign_run.Goals as goal

pub loop-k-preserved : goal.loop-k-preserved
loop-k-preserved g c =
    let list = c.args.list.now in
    let i = c.loop-k.k-index in
    let within : get_or list i 0 < length c.args.y.now = c.requires i c.loop-k-test.true in
    settling_more (λ d p. c.args.value) list c.args.y.now c.loop-k.y i _ c.loop-k-test.true c.loop-k.auto.y (omega arith) (λ d. refl) c.loop-k.invariant

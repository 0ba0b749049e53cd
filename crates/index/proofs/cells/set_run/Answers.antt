use Rattle.std.proofs.Common.{◌<◌, length, get_or, arith}
use Rattle.std.proofs.lemmas.List.{get_or_read}
use Rattle.index.proofs.Settles.{settling_more}
use Rattle.index.proofs.cells.set_run.Goals as goal

pub loop-i-preserved : goal.loop-i-preserved
loop-i-preserved g c =
    let dst = c.args.dst.now in
    let src = c.args.src.now in
    let i = c.loop-i.i in
    let within : get_or dst i 0 < length c.args.y.now = c.requires.inside i c.loop-i-test.true in
    settling_more (λ d p. get_or c.args.x.now (get_or c.args.src.now p 0) d) dst c.args.y.now c.loop-i.y i _ c.loop-i-test.true c.loop-i.auto.y (omega arith)
    (λ d. get_or_read c.args.x.now (get_or src i 0) c.index-x-src.result (c.requires.rows i c.loop-i-test.true) c.index-x-src.is d) c.loop-i.invariant

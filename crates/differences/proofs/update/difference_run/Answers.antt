use Rattle.std.proofs.Common.{◌+◌, inl, arith}
use Rattle.scalar.proofs.Stored.{at_read}
use Rattle.differences.proofs.Runs.{run_more, run_read}
use Rattle.differences.proofs.update.difference_run.Goals as goal

pub loop-i-preserved : goal.loop-i-preserved
loop-i-preserved g c =
    let s = g.S.Scalar in
    let i = c.loop-i.i in
    let new = at_read s.means s.ops c.args.d.now i c.index-d-i.result (omega arith) c.index-d-i.is in
    let old = run_read s.means s.ops c.args.to i _ c.args.ts.now c.loop-i.ts (c.args.before + i) c.index-ts-before.result c.loop-i.auto.ts (omega arith) c.loop-i.invariant (inl (omega arith)) c.index-ts-before.is in
    run_more c.args.to i _ _ c.loop-i.ts _ c.loop-i.invariant (omega arith) (cc)

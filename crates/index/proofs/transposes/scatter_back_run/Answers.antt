use Rattle.index.proofs.Backs.{returning_more}
use Rattle.index.proofs.transposes.scatter_back_run.Goals as goal

pub loop-i-preserved : goal.loop-i-preserved
loop-i-preserved g c =
    let s = g.S.Scalar in
    returning_more s.means s.ops c.args.list.now _ _ _ _ _ _ _ _ _ _ _ _ _ _ c.loop-i.invariant c.in-Some.ensures.steps c.requires.long c.requires.inside c.loop-i.auto.p c.loop-i.auto.q
    c.index-p-i.is c.index-q-k.is c.add.ensures c.zero.ensures

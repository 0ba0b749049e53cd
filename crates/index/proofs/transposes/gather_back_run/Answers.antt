use Rattle.std.proofs.Common.{◌<◌, length, get_or, ap, ◌∙◌, ap₂, arith}
use Rattle.std.proofs.lemmas.List.{get_or_read}
use Rattle.index.proofs.Backs.{gathering_more, gathering_all}
use Rattle.index.proofs.transposes.gather_back_run.Goals as goal

pub loop-i-preserved : goal.loop-i-preserved
loop-i-preserved g c =
    let s = g.S.Scalar in
    let list = c.args.list.now in
    let i = c.loop-i.i in
    let within : get_or list i 0 < length c.args.q.now = c.requires.inside i c.loop-i-test.true in
    gathering_more s.means s.ops list c.args.p.now c.args.q.now c.loop-i.q i _ c.loop-i-test.true c.loop-i.auto.q c.requires.inside
    (λ d.
    let q = get_or_read c.loop-i.q (get_or list i 0) c.index-q-k.result (omega arith) c.index-q-k.is d in
    let p = get_or_read c.args.p.now i c.index-p-i.result (omega arith) c.index-p-i.is d in
    c.add.ensures ∙ ap₂ s.ops.plus (ap s.means q) (ap s.means p))
    c.loop-i.invariant

pub returns : goal.returns
returns g c = gathering_all _ _ _ _ _ _ _ c.loop-i-test.false c.loop-i.invariant

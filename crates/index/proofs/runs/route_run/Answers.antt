use Rattle.std.proofs.Common.{length, get_or, arith}
use Rattle.std.proofs.lemmas.List.{get_or_read}
use Rattle.index.proofs.Settles.{rows_within, routing_more, routing_all}
use Rattle.index.proofs.runs.route_run.Goals as goal

pub loop-i-preserved : goal.loop-i-preserved
loop-i-preserved g c =
    let list = c.args.list.now in
    let x = c.args.x.now in
    let i = c.loop-i.i in
    let rows = c.rows-from.result in
    let within = rows_within c.args.route list (length x) (length c.args.y.now) i rows c.rows-from.ensures c.requires c.loop-i-test.true in
    routing_more (λ d j. get_or x j d) list c.args.y.now c.args.route rows c.loop-i.y i _ c.rows-from.ensures c.loop-i-test.true c.loop-i.auto.y (omega (arith, within.1))
    (λ d. get_or_read x rows.0 c.index-x-from.result within.0 c.index-x-from.is d) c.loop-i.invariant

pub returns : goal.returns
returns g c = routing_all (λ d i. get_or c.args.x.now i d) c.args.list.now c.args.y.now c.args.route (length c.args.x.now) _ _ c.requires c.loop-i-test.false c.loop-i.invariant

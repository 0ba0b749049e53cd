use Rattle.std.proofs.Common.{◌<◌, length, arith, rules}
use Rattle.lex.proofs.Steps.{len_more, len_none}
use Rattle.lex.proofs.fields.bytes_before.Goals as goal

pub loop-rest-preserved : goal.loop-rest-preserved
loop-rest-preserved c =
    let h : 0 < length c.loop-rest.rest.now = search rules in
    let e = len_more c.args.mark c.loop-rest.rest.now h c.if-first-mark.false in
    (omega (arith, e, c.loop-rest.invariant.0), search rules)

pub returns : goal.returns
returns c =
    let h : length c.loop-rest.rest.now < 1 = search rules in
    let e = len_none c.args.mark c.loop-rest.rest.now h in
    record { is = omega (arith, e, c.loop-rest.invariant.0); within = search rules }

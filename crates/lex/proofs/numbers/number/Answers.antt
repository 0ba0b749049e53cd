use Rattle.std.proofs.Common.{◌-◌, ◌<◌, ◌≤◌, length, get_or, sym, refl, ◌∙◌, arith, rules}
use Rattle.std.proofs.lemmas.List.Edits.{length-between}
use Rattle.lex.proofs.Steps.{digits_more, digits_none, pow_more, pow_some}
use Rattle.lex.proofs.numbers.number.Goals as goal

pub loop-rest-init : goal.loop-rest-init
loop-rest-init c = (refl, c.requires, pow_some _)

pub loop-rest-preserved : goal.loop-rest-preserved
loop-rest-preserved c =
    let h : 0 < length c.loop-rest.rest.now = search rules in
    let lo : 48 ≤ get_or c.loop-rest.rest.now 0 0 = search rules in
    let hi : get_or c.loop-rest.rest.now 0 0 ≤ 57 = search rules in
    let e = digits_more c.loop-rest.n c.loop-rest.rest.now h lo hi in
    let d : get_or c.loop-rest.rest.now 0 0 - 48 < 10 = omega arith in
    let p = pow_more c.loop-rest.n (get_or c.loop-rest.rest.now 0 0 - 48) (length c.loop-rest.rest.now) h c.loop-rest.invariant.1 c.loop-rest.invariant.2 d in
    let n : length c.loop-rest.rest.now ≤ length c.loop-rest.rest.now = omega arith in
    let lb = length-between c.loop-rest.rest.now 1 (length c.loop-rest.rest.now) n in
    (sym e ∙ c.loop-rest.invariant.0, search rules, rw lb p)

pub returns : goal.returns
returns c =
    let h : length c.loop-rest.rest.now < 1 = search rules in
    sym (digits_none c.loop-rest.n c.loop-rest.rest.now h) ∙ c.loop-rest.invariant.0

use Rattle.std.proofs.Common.{◌<◌, ◌≤◌, length, arith, rules}
use Rattle.text.proofs.Puts.{length_digit, length_step, written_digit, written_step}
use Rattle.text.proofs.lines.+put_number.Goals as goal

pub bounds-out-at : goal.bounds-out-at
bounds-out-at t c = let l = length_digit c.args.n c.if-n-lt10.true in omega (arith, l, c.requires)

pub put_number-here-requires : goal.put_number-here-requires
put_number-here-requires t c = let l = length_step c.args.n c.if-n-lt10.false (search rules) in search (rules, l)

pub bounds-out-here : goal.bounds-out-here
bounds-out-here t c = let l = length_step c.args.n c.if-n-lt10.false (search rules) in omega (arith, l, c.put_number-here.ensures.end)

pub returns-then-n-lt10 : goal.returns-then-n-lt10
returns-then-n-lt10 t c =
    let l = length_digit c.args.n c.if-n-lt10.true in
    written_digit c.args.out.now c.args.at c.args.n c.if-n-lt10.true (omega (arith, l, c.requires))

pub returns-else-n-lt10 : goal.returns-else-n-lt10
returns-else-n-lt10 t c =
    let l = length_step c.args.n c.if-n-lt10.false (search rules) in
    let le : c.args.at ≤ length c.args.out.now = omega (arith, c.requires) in
    let lt : c.put_number-here.result < length c.put_number-here.new.out = omega (arith, l, c.put_number-here.ensures.end) in
    written_step c.args.out.now c.put_number-here.new.out c.args.at c.put_number-here.result c.args.n c.if-n-lt10.false (search rules) le lt c.put_number-here.ensures

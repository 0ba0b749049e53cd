use Rattle.std.proofs.Common.{length, ap, arith, rules}
use Rattle.std.proofs.lemmas.List.{take_all}
use Rattle.text.specs.Lines.{tabbed}
use Rattle.text.proofs.Puts.{tabbed_room, line_room, written_number, written_line, written_as}
use Rattle.text.proofs.lines.put_line.Goals as goal

pub bounds-out-here : goal.bounds-out-here
bounds-out-here c =
    let l = line_room c.args.word.now c.args.numbers.now in
    let t = tabbed_room c.args.numbers.now c.loop-number.number-index (omega arith) in
    omega (arith, c.loop-number.invariant.end, c.put_word-here.ensures.end)

pub put_number-here-requires : goal.put_number-here-requires
put_number-here-requires c =
    let l = line_room c.args.word.now c.args.numbers.now in
    let t = tabbed_room c.args.numbers.now c.loop-number.number-index (omega arith) in
    search rules

pub loop-number-preserved : goal.loop-number-preserved
loop-number-preserved c =
    let l = line_room c.args.word.now c.args.numbers.now in
    let t = tabbed_room c.args.numbers.now c.loop-number.number-index (omega arith) in
    written_number _ _ _ _ _ _ c.args.numbers.now c.loop-number.number-index (omega arith) (omega arith)
    (omega (arith, c.loop-number.invariant.end, c.put_word-here.ensures.end)) c.loop-number.invariant c.put_number-here.ensures

pub returns : goal.returns
returns c =
    let l = line_room c.args.word.now c.args.numbers.now in
    let e = take_all c.loop-number.number-index c.args.numbers.now (omega arith) in
    let t = ap (λ ns. length (tabbed ns)) e in
    written_line _ _ _ c.args.word.now c.args.numbers.now _ _ _ (omega arith) (omega (arith, c.put_word-here.ensures.end))
    (omega (arith, c.loop-number.invariant.end, c.put_word-here.ensures.end)) c.put_word-here.ensures
    (written_as _ _ _ _ _ _ (ap tabbed e) c.loop-number.invariant)

use Rattle.std.proofs.Common.{sym, arith}
use Rattle.text.proofs.Puts.{steps_more, steps_room, written_more, written_as}
use Rattle.text.proofs.lines.put_steps.Goals as goal

pub put_line-here-requires : goal.put_line-here-requires
put_line-here-requires c =
    let t = steps_room c.args.numbers.now c.loop-place.place (omega arith) in
    omega (arith, c.loop-place.invariant.end)

pub loop-place-preserved : goal.loop-place-preserved
loop-place-preserved c =
    written_as _ _ _ _ _ _ (sym (steps_more c.args.numbers.now c.loop-place.place (omega arith)))
    (written_more _ _ _ _ _ _ _ _ (omega arith) c.loop-place.invariant c.put_line-here.ensures)

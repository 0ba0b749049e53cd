use Rattle.std.proofs.Common.{length, get_or, sym, arith}
use Rattle.text.proofs.Puts.{lanes_more, lanes_room, written_more, written_as}
use Rattle.text.proofs.lines.put_lanes.Goals as goal

pub put_line-here-requires : goal.put_line-here-requires
put_line-here-requires c =
    let t = lanes_room c.loop-lane.lane (length c.args.after.now) (λ b. get_or c.args.after.now b 0) (λ b. get_or c.args.before.now b 0) (omega arith) in
    omega (arith, c.loop-lane.invariant.end)

pub loop-lane-preserved : goal.loop-lane-preserved
loop-lane-preserved c =
    written_as _ _ _ _ _ _ (sym (lanes_more c.loop-lane.lane (λ b. get_or c.args.after.now b 0) (λ b. get_or c.args.before.now b 0)))
    (written_more _ _ _ _ _ _ _ _ (omega arith) c.loop-lane.invariant c.put_line-here.ensures)

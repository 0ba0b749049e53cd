use Rattle.std.proofs.Common.{get_or}
use Rattle.text.specs.Lines.{Written, lane_lines}
use Rattle.text.proofs.lines.put_lanes.Given as goal

abbrev pub invariant-loop-lane : goal.invariant-loop-lane
invariant-loop-lane l = Written l.initial.out l.out l.at (lane_lines l.lane (λ b. get_or l.after b 0) (λ b. get_or l.before b 0)) l.here

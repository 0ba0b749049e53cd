use Rattle.std.proofs.Common.{◌*◌, ◌≤◌, map, length, get_or, ap, ◌∙◌, arith}
use Rattle.std.proofs.lemmas.List.{length-map}
use Rattle.shape.specs.Refusals.{answer}
use Rattle.shape.proofs.Answered.{on_ok}
use Rattle.exact.proofs.Clears.{task_clear}
use Rattle.text.specs.Lines.{step_lines, lane_lines}
use Rattle.text.proofs.Puts.{written_as}
use Rattle.text.proofs.Solutions.{written_in, steps_room_in, lanes_room_in}
use Rattle.text.proofs.solution.put_solution.Goals as goal

pub put_steps-here-requires : goal.put_steps-here-requires
put_steps-here-requires c =
    let x = c.args.task in
    let ok = c.requires.workable in
    let solved = on_ok c.solve.result c.solve.ensures.accepted (c.solve.ensures.verdict ∙ task_clear x _ _ _ ok) in
    let few : length (map answer c.solve.new.answers) ≤ 64 = (let l = length-map c.solve.new.answers answer in omega (arith, c.solve.auto.answers)) in
    let room = steps_room_in c.args.ring x (map answer c.solve.new.answers) c.solve.new.after c.solve.new.before solved few in
    let same = ap (λ ks. length (step_lines 0 ks)) c.number_answers.ensures in
    omega arith

pub put_lanes-requires-clause-room : goal.put_lanes-requires-clause-room
put_lanes-requires-clause-room c =
    let x = c.args.task in
    let ok = c.requires.workable in
    let after = c.solve.new.after in
    let before = c.solve.new.before in
    let solved = on_ok c.solve.result c.solve.ensures.accepted (c.solve.ensures.verdict ∙ task_clear x _ _ _ ok) in
    let few : length (map answer c.solve.new.answers) ≤ 64 = (let l = length-map c.solve.new.answers answer in omega (arith, c.solve.auto.answers)) in
    let steps = steps_room_in c.args.ring x (map answer c.solve.new.answers) after before solved few in
    let same = ap (λ ks. length (step_lines 0 ks)) c.number_answers.ensures in
    let narrow : x.shape.rows * x.shape.lanes ≤ 1024 = omega (arith, ok.vector, ok.state.first.size) in
    let lanes = lanes_room_in c.args.ring x (map answer c.solve.new.answers) after before solved narrow ok.state.table.few_lanes in
    let each = ap (λ n. length (lane_lines n (λ b. get_or after b 0) (λ b. get_or before b 0))) (c.solve.auto.after ∙ ok.after) in
    omega (arith, c.put_steps-here.ensures.end, c.put_steps-here.auto.out, c.requires.room)

pub returns : goal.returns
returns c =
    let x = c.args.task in
    let ok = c.requires.workable in
    let solved = on_ok c.solve.result c.solve.ensures.accepted (c.solve.ensures.verdict ∙ task_clear x _ _ _ ok) in
    written_in c.args.ring x (map answer c.solve.new.answers) c.solve.new.after c.solve.new.before solved _ _ _ _ _ (c.solve.auto.after ∙ ok.after)
    (written_as _ _ _ _ _ _ (ap (step_lines 0) c.number_answers.ensures) c.put_steps-here.ensures) c.put_lanes.ensures

use Rattle.std.proofs.Common.{◌≤◌, ap, ◌∙◌, subst, arith}
use Rattle.shape.specs.Shapes.{cells}
use Rattle.state.specs.Memory.{shown, lengths, vector_of, Holds}
use Rattle.text.specs.Answers.{script_lines}
use Rattle.text.proofs.Puts.{written_as}
use Rattle.text.proofs.Programs.{task_same}
use Rattle.text.proofs.program.put_program.Goals as goal

pub returns : goal.returns
returns c = λ ls h.
    let p = c.args.program.now in
    let x = c.task_of.result in
    let k = c.task_of.ensures.slices in
    let ok = c.task_of.ensures.workable in
    let hs = subst (λ t. Holds t (lengths (shown x.state))) k.shape ok.state in
    let hw = subst (λ t. Holds t (lengths (shown x.weights))) k.shape ok.weights in
    let few : cells p.shape ≤ 1024 = omega (arith, ok.table, hs.table.size) in
    let narrow : cells (vector_of p.shape).of ≤ 1024 = omega (arith, ok.vector, hs.first.size) in
    written_as _ _ _ _ _ _ (task_same ls p x h k few narrow hs hw p.ring ∙ ap (λ z. script_lines z ls) h.ring) c.put_solution.ensures

use Rattle.std.proofs.Common.{◌+◌, length, sym, ap, ◌∙◌, arith}
use Rattle.state.specs.Memory.{held}
use Rattle.state.proofs.Loans.{loan_on}
use Rattle.sweep.specs.Sweeps.{answered}
use Rattle.by_hand.proofs.Chains.{step_left, taken_next}
use Rattle.by_hand.proofs.take_first.Goals as goal

pub loop-answer-preserved : goal.loop-answer-preserved
loop-answer-preserved g c =
    let s = g.S.Scalar in
    let a = c.args in
    let l = c.loop-answer in
    let before = l.invariant in
    let told = c.step.ensures in
    let next = told.next (step_left l.sweep _ (length a.script.steps.now) _ _ _ _ before.1 before.2.sizes l.auto.work c.requires.room (omega (arith, before.0, l.auto.answers, c.requires.enough))) in
    let kept = sym c.without_place.ensures in (
      next.0 ∙ ap (λ z. z + 1) before.0,
      told.shape ∙ before.1,
      loan_on a.state.now l.state c.step.new.state before.2 told.lent,
      taken_next s.means s.ops a.sweep.now.shape a.script l.answer-index (answered c.step.result) l.answers c.without_place.result l.sweep.shape l.sweep.taken
          (held a.state.now) (held l.state) (held c.step.new.state)
          before.1 before.0 kept (omega (arith, l.auto.answers, c.requires.enough)) (omega (arith, l.auto.answers)) before.3 next.1,
    )

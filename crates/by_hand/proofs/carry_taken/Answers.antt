use Rattle.std.proofs.Common.{length, ◌∙◌, arith}
use Rattle.state.specs.Memory.{held}
use Rattle.state.proofs.Loans.{loan_on}
use Rattle.sweep.specs.Sweeps.{answered}
use Rattle.by_hand.proofs.Chains.{step_to_carry, carried_next}
use Rattle.by_hand.proofs.carry_taken.Goals as goal

pub loop-preserved : goal.loop-preserved
loop-preserved g c =
    let s = g.S.Scalar in
    let a = c.args in
    let l = c.loop in
    let before = l.invariant in
    let told = c.back.ensures in
    let next = told.next (step_to_carry l.turned _ (length a.script.steps.now) _ _ _ _ _ _ before.1 before.2.sizes l.auto.ws l.auto.work c.requires.room (omega (arith, before.0)) (omega (arith, before.0, c.requires.inside))) in (
      omega (arith, next.0, before.0),
      told.shape ∙ before.1,
      loan_on a.weights.now l.weights c.back.new.weights before.2 told.lent,
      carried_next s.means s.ops a.turned.now.shape a.script a.turned.now.left l.turned.left c.back.new.self.left (answered c.back.result) l.turned.shape
          (held a.weights.now) (held l.weights) (held c.back.new.weights)
          before.1 next.0 (omega (arith, before.0)) c.requires.inside before.3 next.1,
    )

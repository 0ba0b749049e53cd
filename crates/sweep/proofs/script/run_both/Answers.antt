use Rattle.std.proofs.Common.{ℕ, List, ◌∙◌, subst}
use Rattle.shape.specs.declared.operand.TableShape.{TableShape}
use Rattle.steps.specs.Lanes.{RunBack}
use Rattle.state.specs.Memory.{held, lane_of}
use Rattle.sweep.specs.Sweeps.{steps_of}
use Rattle.sweep.proofs.Runs.{back_alike}
use Rattle.sweep.proofs.script.run_both.Goals as goal

pub returns-clause-back : goal.returns-clause-back
returns-clause-back g c =
    let s = g.S.Scalar in
    let a = c.args in
    let t = a.t in
    let xs = steps_of s.means a.script in
    let w = held a.weights.now in
    let z = held c.run_back.new.weights in
    let shape = c.turn-turned.ensures.0 ∙ c.run_forward.ensures.shape in
    let carried = subst (λ (y : TableShape). (ks : List ℕ) × RunBack s.ops y.rows y.cols y.lanes (lane_of s.means s.ops y) xs ks w z) shape c.run_back.ensures.run in
    back_alike s.ops t.rows t.cols t.lanes (lane_of s.means s.ops t) xs _ carried.0 _ _ w z c.run_forward.ensures.run carried.1

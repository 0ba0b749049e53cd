-- From a kind on weights to the step of a script's record. Assumes nothing.
use Rattle.std.proofs.Common.{◌≡◌, ℕ, List, map, sym, subst, ap, ◌∙◌}
use Rattle.scalar.specs.Ops.{Ops}
use Rattle.shape.specs.declared.operand.TableShape.{TableShape}
use Rattle.steps.specs.Steps.{fault}
use Rattle.steps.specs.Lanes.{StepBack}
use Rattle.steps.proofs.Chains.{accepted_back}
use Rattle.state.specs.Memory.{Memory, lane_of, step_of}
use Rattle.state.specs.declared.record.Script.{Script}
use Rattle.state.specs.declared.record.StepRecord.{StepRecord}
use Rattle.state.proofs.Records.{given_part}
use Rattle.forward.proofs.Taken.{numbers, list}
use Rattle.backward.specs.Backs.{BackBy}

module _ {S M : Type 0} (means : S → M) (o : Ops M) (t : TableShape) (x : StepRecord) (script : Script S) (passed : fault t.rows t.cols (step_of means x script) ≡ 0) (w z : Memory S) where
  pub carried : (ns : List S) (ks : List ℕ) → ns ≡ numbers means t.rows t.cols x script passed → ks ≡ list means t.rows t.cols x script passed
      → BackBy means o t x.kind (map means ns) ks w z → StepBack o t.rows t.cols t.lanes (lane_of means o t) (step_of means x script) 0 w z
  carried ns ks en ek h =
      let named = ap (map means) en ∙ sym (given_part means x.numbers_at x.number_count script.numbers.now) in
      accepted_back o t.rows t.cols t.lanes (lane_of means o t) (step_of means x script) w z passed
      (subst (λ (y : List M). BackBy means o t x.kind y (list means t.rows t.cols x script passed) w z) named
      (subst (λ (y : List ℕ). BackBy means o t x.kind (map means ns) y w z) ek h))

-- From a kind on memory to the step of a script's record. Assumes nothing.
use Rattle.std.proofs.Common.{◌≡◌, ℕ, List, map, length, sym, refl, subst, ap, ◌∙◌}
use Rattle.std.proofs.lemmas.List.{length-map}
use Rattle.scalar.specs.Ops.{Ops}
use Rattle.shape.specs.declared.operand.TableShape.{TableShape}
use Rattle.shape.proofs.Verdicts.{clear}
use Rattle.steps.specs.Steps.{part, given, step_tests, fault}
use Rattle.steps.specs.Lanes.{StepForward}
use Rattle.steps.proofs.Accepted.{accepted, enough}
use Rattle.steps.proofs.Chains.{accepted_forward}
use Rattle.state.specs.Memory.{Memory, lane_of, step_of}
use Rattle.state.specs.declared.record.Script.{Script}
use Rattle.state.specs.declared.record.StepRecord.{StepRecord}
use Rattle.state.proofs.Records.{given_part}
use Rattle.forward.specs.Forward.{Forward, Allowed}

module _ {S M : Type 0} (means : S → M) (r c : ℕ) (x : StepRecord) (script : Script S) (passed : fault r c (step_of means x script) ≡ 0) where
  -- what the step was given, as it is stored
  abbrev pub numbers : List S
  numbers = given (part x.numbers_at x.number_count script.numbers.now)

  abbrev pub list : List ℕ
  list = given (part x.list_at x.list_count script.indices.now)

  pub allowed : Allowed r c x.kind (length numbers) list
  allowed =
      let s = step_of means x script in
      let a = accepted r c s passed in
      record {
        inside = a.inside;
        few = (clear (step_tests r c s) refl passed).1.0;
        numbers = sym (ap length (given_part means x.numbers_at x.number_count script.numbers.now) ∙ length-map numbers means) ∙ enough r c s passed;
        long = a.entries;
        below = a.below;
      }

module _ {S M : Type 0} (means : S → M) (o : Ops M) (t : TableShape) (x : StepRecord) (script : Script S) (passed : fault t.rows t.cols (step_of means x script) ≡ 0) (s m : Memory S) where
  pub taken : (ns : List S) (ks : List ℕ) → ns ≡ numbers means t.rows t.cols x script passed → ks ≡ list means t.rows t.cols x script passed
      → Forward means o t x.kind (map means ns) ks s m → StepForward o t.rows t.cols t.lanes (lane_of means o t) (step_of means x script) 0 s m
  taken ns ks en ek h =
      let named = ap (map means) en ∙ sym (given_part means x.numbers_at x.number_count script.numbers.now) in
      accepted_forward o t.rows t.cols t.lanes (lane_of means o t) (step_of means x script) s m passed
      (subst (λ (z : List M). Forward means o t x.kind z (list means t.rows t.cols x script passed) s m) named
      (subst (λ (z : List ℕ). Forward means o t x.kind (map means ns) z s m) ek h))

-- The answers of a sweep's steps, the step that comes next. Assumes nothing.
use Rattle.std.specs.Prelude.{◌≡◌, ℕ, List, map, Ok, Err, Result, slice_index_or}
use Rattle.shape.specs.Refusals.{number_of}
use Rattle.steps.specs.Steps.{Step}
use Rattle.steps.specs.declared.kind.Kind.TheVariants.{Update}
use Rattle.state.specs.Memory.{step_of}
use Rattle.state.specs.declared.record.Script.{Script}
use Rattle.state.specs.declared.record.StepRecord.{StepRecord}
use Rattle.sweep.specs.declared.fault.StepFault.{StepFault}

-- the number of an answer, 0 where the step was accepted
abbrev pub answered : {A : Type 0} → Result A StepFault → ℕ
answered (Ok x) = 0
answered (Err f) = number_of f.refusal

-- a refusal names the place p
abbrev pub Placed : {A : Type 0} → ℕ → Result A StepFault → Type 0
Placed p (Ok x) = Unit {0}
Placed p (Err f) = f.place ≡ p

-- a record that stands where the script has none; no clause reads it there
abbrev pub blank : StepRecord
blank = record { kind = Update 0; numbers_at = 0; number_count = 0; list_at = 0; list_count = 0 }

-- the record at a place of a script
abbrev pub record_at : {S : Type 0} → Script S → ℕ → StepRecord
record_at script place = slice_index_or script.steps.now place blank

-- the step at a place of a script, and all steps of it, with the script's numbers and indices
abbrev pub step_at : {S M : Type 0} → (S → M) → Script S → ℕ → Step M
step_at means script place = step_of means (record_at script place) script

abbrev pub steps_of : {S M : Type 0} → (S → M) → Script S → List (Step M)
steps_of means script = map (λ x. step_of means x script) script.steps.now

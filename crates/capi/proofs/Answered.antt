-- From a library's answer to its number. Assumes nothing.
use Rattle.std.proofs.Common.{◌≡◌, ℕ, Bool, List, Ok, Err, Result, refl, sym, ◌∙◌}
use Rattle.std.specs.Prelude.{OnOk, OnErr}
use Rattle.shape.specs.Refusals.{answer, first_of, number_of}
use Rattle.shape.specs.declared.refusal.Refusal.{Refusal}
use Rattle.shape.proofs.Answered.{on_ok, number_some}
use Rattle.capi.specs.Answers.{Answered}

on_err : {A P : Type 0} (r : Result A Refusal) → OnErr r P → (answer r ≡ 0 → ⊥) → P
on_err (Ok x) told e = absurd (e refl)
on_err (Err f) told e = told

pub answered : {A D K : Type 0} {tests : List (ℕ × Bool)} {n : ℕ} (r : Result A Refusal) → n ≡ answer r → answer r ≡ first_of tests → OnOk r D → OnErr r K → Answered n tests D K
answered r e v done kept = record {
  verdict = e ∙ v;
  accepted = λ z. on_ok r done (cc);
  refused = λ s. on_err r kept (λ z. s (e ∙ z));
}

-- the same where the answer was taken apart
pub took : {D K : Type 0} {tests : List (ℕ × Bool)} → 0 ≡ first_of tests → D → Answered 0 tests D K
took v done = record {
  verdict = v;
  accepted = λ z. done;
  refused = λ s. absurd (s refl);
}

pub turned_down : {D K : Type 0} {tests : List (ℕ × Bool)} {n : ℕ} (f : Refusal) → n ≡ number_of f → number_of f ≡ first_of tests → K → Answered n tests D K
turned_down f e v kept = record {
  verdict = e ∙ v;
  accepted = λ z. absurd (number_some f (sym e ∙ z));
  refused = λ s. kept;
}

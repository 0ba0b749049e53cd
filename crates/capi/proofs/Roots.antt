-- The answers of root_finding, taken apart. Assumes nothing.
use Rattle.std.proofs.Common.{◌≡◌, ℕ, Bool, List, ℤ, refl, sym, ◌∙◌}
use Rattle.std.specs.Prelude.{Float}
use Rattle.std.specs.Float.{Format}
use Rattle.scalar.specs.Floats.{rounded}
use Rattle.scalar.specs.Orders.{ordered}
use Rattle.shape.specs.Refusals.{first_of, number_of}
use Rattle.shape.specs.declared.refusal.Refusal.{Refusal}
use Rattle.shape.proofs.Answered.{number_some}
use Rattle.norm.specs.Roots.{Agree}
use Rattle.capi.specs.Answers.{RootIs, RootAnswered}

module _ {f : Format} {tests : List (ℕ × Bool)} {g0 g1 : ℕ → ℕ → Float} {rows lanes : ℕ} {zeros : ℕ} {part : Float} {place : ℤ} {K : Type 0} where
  pub root_took :
      ((first_of tests ≡ 0 → ⊥) → 0 ≡ first_of tests)
      → (first_of tests ≡ 0 → (Agree (rounded f) (ordered f) g0 g1 rows lanes → ⊥) → ◌≡◌ {A = ℕ} 0 11)
      → RootIs f (g0 0) (g1 0) rows zeros part place → RootAnswered f 0 tests g0 g1 rows lanes zeros part place K
  root_took v d done = record {
    verdict = v;
    agree = λ z a. refl;
    differ = d;
    accepted = λ z. done;
    refused = λ s. absurd (s refl);
  }

  pub root_turned_down :
      {n : ℕ} (r : Refusal) → n ≡ number_of r
      → ((first_of tests ≡ 0 → ⊥) → number_of r ≡ first_of tests)
      → (first_of tests ≡ 0 → Agree (rounded f) (ordered f) g0 g1 rows lanes → number_of r ≡ 0)
      → (first_of tests ≡ 0 → (Agree (rounded f) (ordered f) g0 g1 rows lanes → ⊥) → number_of r ≡ 11)
      → K → RootAnswered f n tests g0 g1 rows lanes zeros part place K
  root_turned_down r e v a d kept = record {
    verdict = λ s. e ∙ v s;
    agree = λ z w. e ∙ a z w;
    differ = λ z w. e ∙ d z w;
    accepted = λ z. absurd (number_some r (sym e ∙ z));
    refused = λ s. kept;
  }

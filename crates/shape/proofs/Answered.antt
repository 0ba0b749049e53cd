-- What the number of an answer tells, and tests after tests. Assumes nothing.
use Rattle.std.proofs.Common.{◌≡◌, ℕ, Bool, true, false, Ok, Err, Result, List, [], ◌∷◌, ◌++◌, refl, ◌∙◌, arith}
use Rattle.std.proofs.lemmas.Bool.{cond-false}
use Rattle.std.specs.Prelude.{OnOk}
use Rattle.shape.specs.Refusals.{answer, first_of, number_of}
use Rattle.shape.specs.declared.refusal.Refusal.{Refusal}
use Rattle.shape.specs.declared.refusal.Refusal.TheVariants.{NoLanes, TooLarge, Memory, NoColumn, TooMany, Numbers, Counts, Lanes, ListLength, Index, RootsDiffer, NoStep, Malformed, TextLimit}
use Rattle.shape.proofs.Verdicts.{Clear, clear, numbered}

pub first_before : (xs ys : List (ℕ × Bool)) → (first_of xs ≡ 0 → ⊥) → first_of (xs ++ ys) ≡ first_of xs
first_before [] ys n = absurd (n refl)
first_before ((k, true) ∷ xs) ys n = refl
first_before ((k, false) ∷ xs) ys n = first_before xs ys n

pub first_after : (xs ys : List (ℕ × Bool)) → numbered xs ≡ true → first_of xs ≡ 0 → first_of (xs ++ ys) ≡ first_of ys
first_after xs ys n e = after xs (clear xs n e)
  where
    after : (xs : List (ℕ × Bool)) → Clear xs → first_of (xs ++ ys) ≡ first_of ys
    after [] p = refl
    after (x ∷ xs) p = cond-false x.1 x.0 (first_of (xs ++ ys)) p.0 ∙ after xs p.1

-- a refusal has a number
pub number_some : (f : Refusal) → number_of f ≡ 0 → ⊥
number_some NoLanes e = absurd (omega arith)
number_some TooLarge e = absurd (omega arith)
number_some Memory e = absurd (omega arith)
number_some NoColumn e = absurd (omega arith)
number_some TooMany e = absurd (omega arith)
number_some Numbers e = absurd (omega arith)
number_some Counts e = absurd (omega arith)
number_some Lanes e = absurd (omega arith)
number_some ListLength e = absurd (omega arith)
number_some Index e = absurd (omega arith)
number_some RootsDiffer e = absurd (omega arith)
number_some NoStep e = absurd (omega arith)
number_some Malformed e = absurd (omega arith)
number_some TextLimit e = absurd (omega arith)

-- what holds of an accepted call holds where its number is 0
pub on_ok : {A P : Type 0} (r : Result A Refusal) → OnOk r P → answer r ≡ 0 → P
on_ok (Ok x) told e = told
on_ok (Err f) told e = absurd (number_some f e)

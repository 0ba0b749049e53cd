-- Equality is a relation that the operations keep: what is alike in a lane stays alike. Assumes nothing.
use Rattle.std.proofs.Common.{◌≡◌, ℕ, List, [], ◌∷◌, sym, refl, ap, ◌∙◌, ap₂}
use Rattle.scalar.specs.Ops.{Ops}
use Rattle.steps.specs.States.{Lane, Alike, pairing}
use Rattle.steps.specs.Steps.{Step, fault}
use Rattle.steps.specs.Actions.{forward, back}
use Rattle.steps.specs.Runs.{taken, carried, run, carry, Apart}
use Rattle.steps.specs.Relations.{Keeps, Matched, AllMatched}
use Rattle.steps.proofs.Kept.{forward_kept, back_kept, taken_kept, carried_kept, run_kept, carry_kept, pairing_kept}

module _ {M : Type 0} (r c : ℕ) where
  pub alike_refl : (s : Lane M) → Alike r c s s
  alike_refl s = record { table = λ j i a b. refl; first = λ i a. refl; second = λ i a. refl }

  pub alike_sym : (s t : Lane M) → Alike r c s t → Alike r c t s
  alike_sym s t h = record { table = λ j i a b. sym (h.table j i a b); first = λ i a. sym (h.first i a); second = λ i a. sym (h.second i a) }

  pub alike_trans : (s t u : Lane M) → Alike r c s t → Alike r c t u → Alike r c s u
  alike_trans s t u h g = record {
    table = λ j i a b. h.table j i a b ∙ g.table j i a b;
    first = λ i a. h.first i a ∙ g.first i a;
    second = λ i a. h.second i a ∙ g.second i a;
  }

module _ {M : Type 0} (o : Ops M) where
  abbrev Same : M → M → Type 0
  Same a b = a ≡ b

  same_kept : Keeps o o Same
  same_kept = record {
    zero = refl;
    one = refl;
    plus = λ h g. ap₂ o.plus h g;
    times = λ h g. ap₂ o.times h g;
    minus = λ h. ap o.minus h;
    test = refl;
  }

  self_matched : (x : Step M) → Matched o o Same x x
  self_matched x = record { kind = refl; list = refl; counts = λ n. refl; numbers = λ l. refl; tests = λ l. refl }

  all_matched : (xs : List (Step M)) → AllMatched o o Same xs xs
  all_matched [] = tt
  all_matched (x ∷ xs) = (self_matched x, all_matched xs)

  -- a step reads no place outside r rows and c columns
  pub forward_alike : (r c : ℕ) (x : Step M) → fault r c x ≡ 0 → (s t : Lane M) → Alike r c s t → Alike r c (forward o x s) (forward o x t)
  forward_alike r c x e s t h = forward_kept same_kept r c x x (self_matched x) s t h e

  pub back_alike : (r c : ℕ) (x : Step M) → fault r c x ≡ 0 → (w z : Lane M) → Alike r c w z → Alike r c (back o x w) (back o x z)
  back_alike r c x e w z h = back_kept same_kept r c x x (self_matched x) w z h e

  pub taken_alike : (r c : ℕ) (x : Step M) (s t : Lane M) → Alike r c s t → Alike r c (taken o r c x s) (taken o r c x t)
  taken_alike r c x s t h = taken_kept same_kept r c x x (self_matched x) s t h

  pub carried_alike : (r c : ℕ) (x : Step M) (w z : Lane M) → Alike r c w z → Alike r c (carried o r c x w) (carried o r c x z)
  carried_alike r c x w z h = carried_kept same_kept r c x x (self_matched x) w z h

  pub run_alike : (r c : ℕ) (xs : List (Step M)) (s t : Lane M) → Alike r c s t → Alike r c (run o r c xs s) (run o r c xs t)
  run_alike r c xs s t h = run_kept same_kept r c xs xs (all_matched xs) s t h

  pub carry_alike : (r c : ℕ) (xs : List (Step M)) (w z : Lane M) → Alike r c w z → Alike r c (carry o r c xs w) (carry o r c xs z)
  carry_alike r c xs w z h = carry_kept same_kept r c xs xs (all_matched xs) w z h

  pub pairing_alike : (r c : ℕ) (s w t z : Lane M) → Alike r c s t → Alike r c w z → pairing o r c s w ≡ pairing o r c t z
  pairing_alike r c s w t z h g = pairing_kept same_kept r c s w t z h g

  pub lanes_apart : Apart o
  lanes_apart = record { states = run_alike; weights = carry_alike }

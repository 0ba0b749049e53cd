-- The numbers of a record's step, as they are stored and by their meanings. Assumes nothing.
use Rattle.std.proofs.Common.{◌≡◌, ℕ, ◌+◌, Bool, true, false, cond, leb, List, [], map, length, take, drop, Some, None, Option, refl, ap, ◌∙◌}
use Rattle.std.specs.Prelude.{unwrap_or, option_copied}
use Rattle.std.specs.Borrow.{Bor}
use Rattle.std.proofs.lemmas.List.{take-map, drop-map, length-map}
use Rattle.steps.specs.Steps.{part, given}
use Rattle.steps.specs.Relations.{map_given}

module _ {S M : Type 0} (f : S → M) where
  pub part_map : (place count : ℕ) (xs : List S) → part place count (map f xs) ≡ map_given f (part place count xs)
  part_map place count xs =
      ap (λ z. cond (leb (place + count) z) (Some (take count (drop place (map f xs)))) None) (length-map xs f)
      ∙ ap (λ z. cond (leb (place + count) (length xs)) (Some z) None) (ap (take count) (drop-map f place xs) ∙ take-map f count (drop place xs))
      ∙ by (leb (place + count) (length xs))
    where
      by : (t : Bool) → cond t (Some (map f (take count (drop place xs)))) None ≡ map_given f (cond t (Some (take count (drop place xs))) None)
      by true = refl
      by false = refl

  given_map : (xs : Option (List S)) → given (map_given f xs) ≡ map f (given xs)
  given_map None = refl
  given_map (Some xs) = refl

  pub given_part : (place count : ℕ) (xs : List S) → given (part place count (map f xs)) ≡ map f (given (part place count xs))
  given_part place count xs = ap given (part_map place count xs) ∙ given_map (part place count xs)

-- what was given where nothing is read past the array
pub given_or : {A : Type 0} (xs : Option (Bor (List A))) (none read : Bor (List A)) (here : Option (List A)) → read ≡ unwrap_or xs none → none.now ≡ [] → option_copied xs ≡ here → read.now ≡ given here
given_or None none read here e empty h = ap (λ r. r.now) e ∙ empty ∙ ap given h
given_or (Some xs) none read here e empty h = ap (λ r. r.now) e ∙ ap given h

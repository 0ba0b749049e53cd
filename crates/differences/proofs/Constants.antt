-- A rule of a constant table of three indices, by one test that is computed over all of its entries. Assumes nothing.
use Rattle.std.proofs.Common.{◌≡◌, ℕ, zero, suc, ◌+◌, ◌<◌, ◌≤◌, Bool, true, false, cond, ◌&&◌, eqb, leb, List, [], get_or, ℤ, pos, negsuc, refl, ap, ◌∙◌, ap₂, inl, inr, arith, w8, to_z, of_z}
use Rattle.std.proofs.lemmas.Bool.{and_parts, cases_eq, eqb-true, false≢true}
use Rattle.differences.specs.Matrices.{sign, each, same, ruled}

pub each_at : (n : ℕ) (f : ℕ → Bool) → each n f ≡ true → (k : ℕ) → k < n → f k ≡ true
each_at zero f all k h = absurd (omega arith)
each_at (suc n) f all k h =
    let p = and_parts (f n) (each n f) all in
    elim (cases_eq k n) [ inl e ↦ ap f e ∙ p.0 | inr ne ↦ each_at n f p.1 k (omega arith) ]

same_is : (a b : ℤ) → same a b ≡ true → a ≡ b
same_is (pos m) (pos n) t = ap pos (eqb-true m n t)
same_is (pos m) (negsuc n) t = absurd (false≢true t)
same_is (negsuc m) (pos n) t = absurd (false≢true t)
same_is (negsuc m) (negsuc n) t = ap negsuc (eqb-true m n t)

-- what passes the test keeps the rule
pub rule : (table : List (List (List ℤ))) → ruled table ≡ true → (k j l : ℕ) → k ≤ 5 → j < 8 → l < 8 → get_or (get_or (get_or table k []) j []) l (pos 0) ≡ sign k j l
rule table all k j l hk hj hl =
    let at = λ (k j l : ℕ). same (get_or (get_or (get_or table k []) j []) l (pos 0)) (sign k j l) in
    let order = each_at 6 (λ k. each 8 (λ j. each 8 (λ l. at k j l))) all k (omega arith) in
    let row = each_at 8 (λ j. each 8 (λ l. at k j l)) order j hj in
    same_is _ _ (each_at 8 (λ l. at k j l) row l hl)

-- ---- from whole numbers to the bytes of the table

cond_ap : {A B : Type 0} (f : A → B) (t : Bool) (a b : A) → f (cond t a b) ≡ cond t (f a) (f b)
cond_ap f true a b = refl
cond_ap f false a b = refl

on_signs : {A : Type 0} (f : ℤ → A) (k j l : ℕ)
    → f (sign k j l) ≡ cond (leb j k) (cond (leb l j) (f (pos 1)) (f (pos 0))) (cond (eqb j (k + 1) && eqb l (k + 2)) (f (negsuc 0)) (f (pos 0)))
on_signs f k j l =
    cond_ap f (leb j k) _ _
    ∙ ap₂ (cond (leb j k)) (cond_ap f (leb l j) (pos 1) (pos 0)) (cond_ap f (eqb j (k + 1) && eqb l (k + 2)) (negsuc 0) (pos 0))

-- a byte holds the numbers of the table
pub sign_held : (k j l : ℕ) → to_z w8 (of_z w8 (sign k j l)) ≡ sign k j l
sign_held k j l = on_signs (λ z. to_z w8 (of_z w8 z)) k j l

-- One byte more of a line.
use Rattle.std.proofs.Common.{◌≡◌, ℕ, suc, ◌+◌, ◌-◌, ◌*◌, ◌^◌, ◌<◌, ◌≤◌, true, ◌||◌, ltb, List, [], ◌∷◌, length, get_or, Some, None, refl, ap, ◌∙◌, pow-suc, arith}
use native.Mathlib.Nat.{one-le-pow}
use Rattle.std.proofs.lemmas.Slice.{first_rest}
use Rattle.std.proofs.lemmas.Bool.Decides.{nat_tests}
use Rattle.std.specs.List.{between}
use Rattle.lex.specs.Lines.{before}
use Rattle.lex.specs.Numbers.{spelt, magnitude_of, signed, value_of}

cons_len : (s : ℕ) (xs ys : List ℕ) (b : ℕ) → xs ≡ b ∷ ys → (b ≡ s → ⊥) → before s xs ≡ 1 + before s ys
cons_len s xs ys b e ne = ap (before s) e ∙ grind (arith, nat_tests)

pub len_more : (s : ℕ) (xs : List ℕ) → 0 < length xs → (get_or xs 0 0 ≡ s → ⊥) → before s xs ≡ 1 + before s (between 1 (length xs) xs)
len_more s xs h ne = cons_len s xs _ (get_or xs 0 0) (first_rest xs 0 h) ne

cons_stop : (s : ℕ) (xs ys : List ℕ) (b : ℕ) → xs ≡ b ∷ ys → b ≡ s → before s xs ≡ 0
cons_stop s xs ys b e eq = ap (before s) e ∙ grind (arith, nat_tests)

pub len_stop : (s : ℕ) (xs : List ℕ) → 0 < length xs → get_or xs 0 0 ≡ s → before s xs ≡ 0
len_stop s xs h eq = cons_stop s xs _ (get_or xs 0 0) (first_rest xs 0 h) eq

pub len_none : (s : ℕ) (xs : List ℕ) → length xs < 1 → before s xs ≡ 0
len_none s [] h = refl
len_none s (x ∷ xs) h = absurd (let z : ⊥ = omega arith in z)

cons_digits : (n : ℕ) (xs ys : List ℕ) (b : ℕ) → xs ≡ b ∷ ys → 48 ≤ b → b ≤ 57 → spelt n xs ≡ spelt (n * 10 + (b - 48)) ys
cons_digits n xs ys b e lo hi = ap (spelt n) e ∙ grind (arith, nat_tests)

pub digits_more : (n : ℕ) (xs : List ℕ) → 0 < length xs → 48 ≤ get_or xs 0 0 → get_or xs 0 0 ≤ 57 → spelt n xs ≡ spelt (n * 10 + (get_or xs 0 0 - 48)) (between 1 (length xs) xs)
digits_more n xs h lo hi = cons_digits n xs _ (get_or xs 0 0) (first_rest xs 0 h) lo hi

pub digits_none : (n : ℕ) (xs : List ℕ) → length xs < 1 → spelt n xs ≡ Some n
digits_none n [] h = refl
digits_none n (x ∷ xs) h = absurd (let z : ⊥ = omega arith in z)

cons_bad : (n : ℕ) (xs ys : List ℕ) (b : ℕ) → xs ≡ b ∷ ys → (ltb b 48 || ltb 57 b) ≡ true → spelt n xs ≡ None
cons_bad n xs ys b e t = ap (spelt n) e ∙ rw t

pub pow_more : (n d len : ℕ) → 0 < len → len ≤ 10 → n < 10 ^ (10 - len) → d < 10 → n * 10 + d < 10 ^ (10 - (len - 1))
pow_more n d len h le lt dl =
    let e : 10 - (len - 1) ≡ suc (10 - len) = omega arith in
    rw e (rw pow-suc (omega arith))

pub pow_some : (k : ℕ) → 0 < 10 ^ k
pow_some k = one-le-pow k 10 (omega arith)

cons_minus : (xs ys : List ℕ) (b : ℕ) → xs ≡ b ∷ ys → b ≡ 45 → value_of xs ≡ signed true (magnitude_of ys)
cons_minus xs ys b e m = ap value_of (e ∙ ap (λ (v : ℕ). v ∷ ys) m)

pub minus_more : (xs : List ℕ) → 0 < length xs → get_or xs 0 0 ≡ 45 → value_of xs ≡ signed true (magnitude_of (between 1 (length xs) xs))
minus_more xs h m = cons_minus xs _ (get_or xs 0 0) (first_rest xs 0 h) m

-- The row functions: their values by columns, and rows that agree. Assumes nothing.
use Rattle.std.proofs.Common.{◌≡◌, ℕ, zero, suc, ◌+◌, ◌-◌, ◌<◌, ◌≤◌, ltb, leb, sym, ap, ◌∙◌, arith}
use Rattle.std.proofs.lemmas.Bool.{cond-true, le-leb, lt-ltb}
use Rattle.scalar.specs.Ops.{Ops}
use Rattle.scalar.specs.Sums.{sum}
use Rattle.scalar.proofs.SumLaws.{sum_same}
use Rattle.differences.specs.Rows.{multiplied, scanned, updated}
use Rattle.differences.specs.Updates.{accumulated}

module _ {M : Type 0} (o : Ops M) where
  -- a column of the matrix
  pub multiplied_in : (x : ℕ → M) (k : ℕ) (m : ℕ → ℕ → M) (j : ℕ) → j < k → multiplied o x k m j ≡ sum o (λ l. o.times (x l) (m j l)) k
  multiplied_in x k m j h = cond-true (ltb j k) _ _ (lt-ltb j k h)

  pub multiplied_cong : (x y : ℕ → M) (k : ℕ) (m : ℕ → ℕ → M) (j : ℕ) → j < k → ((l : ℕ) → l < k → x l ≡ y l) → multiplied o x k m j ≡ multiplied o y k m j
  multiplied_cong x y k m j h same =
      multiplied_in x k m j h
      ∙ sum_same o o.zero (λ l. o.times (x l) (m j l)) (λ l. o.times (y l) (m j l)) k (λ l b. ap (λ z. o.times z (m j l)) (same l b))
      ∙ sym (multiplied_in y k m j h)

  pub updated_in : (x : ℕ → M) (d : M) (k j : ℕ) → j < k + 3 → updated o x d k j ≡ scanned o x d k (k + 2 - j)
  updated_in x d k j h = cond-true (leb j (k + 2)) _ _ (le-leb j (k + 2) (omega arith))

  pub updated_last : (x : ℕ → M) (d : M) (k : ℕ) → updated o x d k (k + 2) ≡ o.plus d (o.minus (x (k + 1)))
  updated_last x d k = let none : k + 2 - (k + 2) ≡ 0 = omega arith in updated_in x d k (k + 2) (omega arith) ∙ ap (scanned o x d k) none

  scanned_cong : (x y : ℕ → M) (d e : M) (k : ℕ) → ((l : ℕ) → l < k + 3 → x l ≡ y l) → d ≡ e → (t : ℕ) → scanned o x d k t ≡ scanned o y e k t
  scanned_cong x y d e k same is zero = let p = same (k + 1) (omega arith) in cc
  scanned_cong x y d e k same is (suc t) = let p = same (k + 1 - t) (omega arith) in let q = scanned_cong x y d e k same is t in cc

  pub updated_cong : (x y : ℕ → M) (d e : M) (k j : ℕ) → j < k + 3 → ((l : ℕ) → l < k + 3 → x l ≡ y l) → d ≡ e → updated o x d k j ≡ updated o y e k j
  updated_cong x y d e k j h same is = updated_in x d k j h ∙ scanned_cong x y d e k same is (k + 2 - j) ∙ sym (updated_in y e k j h)

  pub accumulated_step : (x : ℕ → M) (n j : ℕ) → j < n → accumulated o x n (n - j) ≡ o.plus (x j) (accumulated o x n (n - (j + 1)))
  accumulated_step x n j h =
      let e : n - j ≡ suc (n - (j + 1)) = omega arith in
      let back : n - suc (n - (j + 1)) ≡ j = omega arith in
      ap (accumulated o x n) e ∙ ap (λ z. o.plus (x z) (accumulated o x n (n - (j + 1)))) back

  -- the update is an accumulation from its last column, which is written first
  accumulated_scanned : (x y : ℕ → M) (d : M) (k : ℕ) → y (k + 2) ≡ o.plus d (o.minus (x (k + 1))) → ((l : ℕ) → l < k + 2 → y l ≡ x l)
      → (t : ℕ) → t ≤ k + 2 → accumulated o y (k + 2) t ≡ scanned o x d k t
  accumulated_scanned x y d k last same zero h = last
  accumulated_scanned x y d k last same (suc t) h =
      let e : k + 2 - suc t ≡ k + 1 - t = omega arith in
      let p : y (k + 2 - suc t) ≡ x (k + 1 - t) = same (k + 2 - suc t) (omega arith) ∙ ap x e in
      let q = accumulated_scanned x y d k last same t (omega arith) in
      cc

  pub accumulated_updated : (x y : ℕ → M) (d : M) (k j : ℕ) → y (k + 2) ≡ o.plus d (o.minus (x (k + 1))) → ((l : ℕ) → l < k + 2 → y l ≡ x l)
      → j < k + 3 → accumulated o y (k + 2) (k + 2 - j) ≡ updated o x d k j
  accumulated_updated x y d k j last same h = accumulated_scanned x y d k last same (k + 2 - j) (omega arith) ∙ sym (updated_in x d k j h)

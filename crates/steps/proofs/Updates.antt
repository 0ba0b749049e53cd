-- The difference update of a row, and that its transpose carries the weights back. Assumes nothing.
use Rattle.std.proofs.Common.{◌≡◌, ℕ, zero, suc, ◌+◌, ◌-◌, ◌<◌, ◌≤◌, sym, ap, ◌∙◌, add-one, arith}
use native.Mathlib.Numerals.{add-two, add-three}
use Rattle.std.proofs.lemmas.Bool.Decides.{nat_tests}
use Rattle.scalar.specs.Ops.{Ops, Ring}
use Rattle.scalar.specs.Sums.{sum}
use Rattle.scalar.proofs.SumLaws.{sum_same}
use Rattle.scalar.specs.RingLaws.{zero_plus, times_zero, zero_times}
use Rattle.differences.specs.Rows.{updated, scanned, transposed, multiplied}
use Rattle.differences.proofs.RowLaws.{updated_in, updated_last}
use Rattle.differences.proofs.TransposeLaws.{transposed_sums, transposed_negated, transposed_cleared}
use Rattle.steps.specs.Actions.{total}
use Rattle.steps.proofs.Sums.{plus_assoc, times_plus, plus_times, times_minus, sum_below, sorts, ring}
use Rattle.steps.proofs.Products.{multiplied_past, total_sum}

module _ {M : Type 0} (o : Ops M) where
  -- column j below k + 2 gains the new column j + 1
  updated_step : (x : ℕ → M) (d : M) (k j : ℕ) → j < k + 2 → updated o x d k j ≡ o.plus (x j) (updated o x d k (suc j))
  updated_step x d k j h =
      let t : k + 2 - j ≡ suc (k + 1 - j) = omega arith in
      let q : k + 1 - (k + 1 - j) ≡ j = omega arith in
      let v : k + 1 - j ≡ k + 2 - suc j = omega arith in
      updated_in o x d k j (omega arith)
      ∙ ap (scanned o x d k) t
      ∙ ap (λ z. o.plus (x z) (scanned o x d k (k + 1 - j))) q
      ∙ ap (λ z. o.plus (x j) (scanned o x d k z)) v
      ∙ ap (λ z. o.plus (x j) z) (sym (updated_in o x d k (suc j) (omega arith)))

  updated_past : (x : ℕ → M) (d : M) (k j : ℕ) → k + 3 ≤ j → updated o x d k j ≡ x j
  updated_past x d k j h = grind (arith, nat_tests)

module _ {M : Type 0} {o : Ops M} (𝓡 : Ring o) where
  infixl 60 ◌⊕◌
  infixl 70 ◌⊗◌
  abbrev ◌⊕◌ : M → M → M
  a ⊕ b = o.plus a b

  abbrev ◌⊗◌ : M → M → M
  a ⊗ b = o.times a b

  -- ---- the update's sum

  -- summation by parts
  abel : (x z e : ℕ → M) (n : ℕ) → ((j : ℕ) → j < n → z j ≡ x j ⊕ z (suc j))
      → sum o (λ j. z j ⊗ e j) n ≡ sum o (λ j. x j ⊗ sum o e (suc j)) n ⊕ z n ⊗ sum o e n
  abel x z e zero h = sym (zero_plus 𝓡 (z 0 ⊗ o.zero) ∙ times_zero 𝓡 (z 0))
  abel x z e (suc n) h =
      let S = sum o (λ j. x j ⊗ sum o e (suc j)) n in
      let W = sum o e n in
      ap (λ y. y ⊕ z n ⊗ e n) (abel x z e n (λ j l. h j (omega arith)))
      ∙ ap (λ y. S ⊕ y ⊗ W ⊕ y ⊗ e n) (h n (omega arith))
      ∙ parts S W (e n) (x n) (z (suc n))
    where
      parts : (S W e x z : M) → S ⊕ (x ⊕ z) ⊗ W ⊕ (x ⊕ z) ⊗ e ≡ S ⊕ x ⊗ (W ⊕ e) ⊕ z ⊗ (W ⊕ e)
      parts S W e x z = simp ring

  -- d − X in the last column takes X from what the columns below gave
  top_column : (S X W E d : M) → S ⊕ X ⊗ W ⊕ (d ⊕ o.minus X) ⊗ (W ⊕ E) ≡ S ⊕ X ⊗ o.minus E ⊕ d ⊗ (W ⊕ E)
  top_column S X W E d =
      let N = o.minus X in
      let gone : X ⊗ W ⊕ N ⊗ W ≡ o.zero = sym (plus_times 𝓡 X N W) ∙ ap (λ y. y ⊗ W) (𝓡.plus_minus X) ∙ zero_times 𝓡 W in
      ap (λ y. S ⊕ X ⊗ W ⊕ y) (plus_times 𝓡 d N (W ⊕ E) ∙ ap (λ y. d ⊗ (W ⊕ E) ⊕ y) (times_plus 𝓡 N W E))
      ∙ sort S (X ⊗ W) (N ⊗ W) (N ⊗ E) (d ⊗ (W ⊕ E))
      ∙ ap (λ y. y ⊕ (S ⊕ N ⊗ E ⊕ d ⊗ (W ⊕ E))) gone
      ∙ zero_plus 𝓡 (S ⊕ N ⊗ E ⊕ d ⊗ (W ⊕ E))
      ∙ ap (λ y. S ⊕ y ⊕ d ⊗ (W ⊕ E)) (sym (times_minus 𝓡 X E))
    where
      sort : (S A B C F : M) → S ⊕ A ⊕ (F ⊕ (B ⊕ C)) ≡ A ⊕ B ⊕ (S ⊕ C ⊕ F)
      sort S A B C F = simp sorts

  -- x before and y after the update by d, e the weights and E the weights carried back
  update_sum : (x y e E : ℕ → M) (d : M) (k : ℕ)
      → ((j : ℕ) → j < suc (suc k) → y j ≡ x j ⊕ y (suc j)) → y (suc (suc k)) ≡ d ⊕ o.minus (x (suc k))
      → ((j : ℕ) → j < suc k → E j ≡ sum o e (suc j)) → E (suc k) ≡ o.minus (e (suc (suc k))) → E (suc (suc k)) ≡ o.zero
      → sum o (λ j. y j ⊗ e j) (suc (suc (suc k))) ≡ sum o (λ j. x j ⊗ E j) (suc (suc (suc k))) ⊕ d ⊗ sum o e (suc (suc (suc k)))
  update_sum x y e E d k step top low mid high =
      let K = suc (suc k) in
      let S = sum o (λ j. x j ⊗ sum o e (suc j)) (suc k) in
      let S' = sum o (λ j. x j ⊗ E j) (suc k) in
      let W = sum o e K in
      let same : S' ≡ S = sum_same o o.zero (λ j. x j ⊗ E j) (λ j. x j ⊗ sum o e (suc j)) (suc k) (λ j l. ap (λ y. x j ⊗ y) (low j l)) in
      let carried : S' ⊕ x (suc k) ⊗ E (suc k) ⊕ x K ⊗ E K ≡ S ⊕ x (suc k) ⊗ o.minus (e K) =
      ap (λ y. S' ⊕ x (suc k) ⊗ E (suc k) ⊕ x K ⊗ y) high
      ∙ ap (λ y. S' ⊕ x (suc k) ⊗ E (suc k) ⊕ y) (times_zero 𝓡 (x K))
      ∙ 𝓡.plus_zero (S' ⊕ x (suc k) ⊗ E (suc k))
      ∙ ap (λ y. S' ⊕ x (suc k) ⊗ y) mid
      ∙ ap (λ y. y ⊕ x (suc k) ⊗ o.minus (e K)) same in
      ap (λ z. z ⊕ y K ⊗ e K) (abel x y e K step)
      ∙ plus_assoc 𝓡 (S ⊕ x (suc k) ⊗ W) (y K ⊗ W) (y K ⊗ e K)
      ∙ ap (λ z. S ⊕ x (suc k) ⊗ W ⊕ z) (sym (times_plus 𝓡 (y K) W (e K)))
      ∙ ap (λ z. S ⊕ x (suc k) ⊗ W ⊕ z ⊗ (W ⊕ e K)) top
      ∙ top_column S (x (suc k)) W (e K) d
      ∙ ap (λ z. z ⊕ d ⊗ (W ⊕ e K)) (sym carried)

  -- ---- a row of the update

  pub update_row : (c k : ℕ) → k + 2 < c → (x e : ℕ → M) (d p R : M)
      → sum o (λ j. updated o x d k j ⊗ e j) c ⊕ (d ⊗ p ⊕ R)
      ≡ sum o (λ j. x j ⊗ multiplied o e (k + 3) (transposed o k) j) c ⊕ (d ⊗ (p ⊕ total o e (k + 3)) ⊕ R)
  update_row c k h x e d p R =
      let W = sum o e (suc (suc (suc k))) in
      let E : ℕ → M = multiplied o e (k + 3) (transposed o k) in
      let y : ℕ → M = updated o x d k in
      let S = sum o (λ j. x j ⊗ E j) c in
      let top : y (suc (suc k)) ≡ d ⊕ o.minus (x (suc k)) = ap y (sym (add-two k)) ∙ updated_last o x d k ∙ ap (λ z. d ⊕ o.minus (x z)) (add-one k) in
      let low : (j : ℕ) → j < suc k → E j ≡ sum o e (suc j) = λ j l. transposed_sums o 𝓡 e k j (omega arith) ∙ ap (sum o e) (add-one j) in
      let mid : E (suc k) ≡ o.minus (e (suc (suc k))) = ap E (sym (add-one k)) ∙ transposed_negated o 𝓡 e k ∙ ap (λ z. o.minus (e z)) (add-two k) in
      let high : E (suc (suc k)) ≡ o.zero = ap E (sym (add-two k)) ∙ transposed_cleared o 𝓡 e k in
      let all : sum o (λ j. y j ⊗ e j) c ≡ S ⊕ d ⊗ W =
      sum_below 𝓡 (λ j. y j ⊗ e j) (λ j. x j ⊗ E j) (d ⊗ W) (suc (suc (suc k))) c (omega arith)
      (update_sum x y e E d k (λ j l. updated_step o x d k j (omega arith)) top low mid high)
      (λ j g. ap (λ z. z ⊗ e j) (updated_past o x d k j (omega arith)) ∙ ap (λ z. x j ⊗ z) (sym (multiplied_past o e (k + 3) (transposed o k) j (omega arith)))) in
      let w : total o e (k + 3) ≡ W = total_sum 𝓡 e (k + 3) ∙ ap (sum o e) (add-three k) in
      ap (λ z. z ⊕ (d ⊗ p ⊕ R)) all ∙ shift S (d ⊗ W) (d ⊗ p) R ∙ ap (λ z. S ⊕ (z ⊕ R)) (sym (times_plus 𝓡 d p W)) ∙ ap (λ z. S ⊕ (d ⊗ (p ⊕ z) ⊕ R)) (sym w)
    where
      shift : (A B C D : M) → A ⊕ B ⊕ (C ⊕ D) ≡ A ⊕ (C ⊕ B ⊕ D)
      shift A B C D = simp sorts

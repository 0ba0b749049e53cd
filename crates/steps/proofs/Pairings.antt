-- The pairing taken apart: by its three parts, and row by row. Assumes nothing.
use Rattle.std.proofs.Common.{◌≡◌, ℕ, zero, suc, ◌<◌, sym, refl, ap, ◌∙◌}
use Rattle.scalar.specs.Ops.{Ops, Ring}
use Rattle.scalar.specs.Sums.{sum, sum_from}
use Rattle.scalar.proofs.SumLaws.{sum_same}
use Rattle.steps.specs.States.{Lane, pairing, columns_from}
use Rattle.steps.proofs.Sums.{plus_assoc, from_sum, sum_plus, sum_swap}

module _ {M : Type 0} {o : Ops M} (𝓡 : Ring o) where
  infixl 60 ◌⊕◌
  infixl 70 ◌⊗◌
  abbrev ◌⊕◌ : M → M → M
  a ⊕ b = o.plus a b

  abbrev ◌⊗◌ : M → M → M
  a ⊗ b = o.times a b

  -- the table's part
  abbrev pub tables : ℕ → ℕ → Lane M → Lane M → M
  tables r c s w = columns_from o r o.zero (λ j i. s.table j i ⊗ w.table j i) c

  -- the two vectors' parts
  abbrev pub firsts : ℕ → Lane M → Lane M → M
  firsts r s w = sum o (λ i. s.first i ⊗ w.first i) r

  abbrev pub seconds : ℕ → Lane M → Lane M → M
  seconds r s w = sum o (λ i. s.second i ⊗ w.second i) r

  pub by_parts : (r c : ℕ) (s w : Lane M) → pairing o r c s w ≡ tables r c s w ⊕ (firsts r s w ⊕ seconds r s w)
  by_parts r c s w =
      let g : ℕ → M = λ i. s.first i ⊗ w.first i in
      let h : ℕ → M = λ i. s.second i ⊗ w.second i in
      from_sum 𝓡 (sum_from o (tables r c s w) g r) h r
      ∙ ap (λ y. y ⊕ sum o h r) (from_sum 𝓡 (tables r c s w) g r)
      ∙ plus_assoc 𝓡 (tables r c s w) (sum o g r) (sum o h r)

  columns_sum : (r : ℕ) (f : ℕ → ℕ → M) (c : ℕ) → columns_from o r o.zero f c ≡ sum o (λ j. sum o (f j) r) c
  columns_sum r f zero = refl
  columns_sum r f (suc c) = from_sum 𝓡 (columns_from o r o.zero f c) (f c) r ∙ ap (λ y. y ⊕ sum o (f c) r) (columns_sum r f c)

  -- what row i gives to the pairing
  abbrev pub row_pairing : ℕ → Lane M → Lane M → ℕ → M
  row_pairing c s w i = sum o (λ j. s.table j i ⊗ w.table j i) c ⊕ (s.first i ⊗ w.first i ⊕ s.second i ⊗ w.second i)

  rows_sum : (r c : ℕ) (s w : Lane M) → pairing o r c s w ≡ sum o (row_pairing c s w) r
  rows_sum r c s w =
      let f : ℕ → ℕ → M = λ j i. s.table j i ⊗ w.table j i in
      let g : ℕ → M = λ i. s.first i ⊗ w.first i in
      let h : ℕ → M = λ i. s.second i ⊗ w.second i in
      let F = sum o (λ i. sum o (λ j. f j i) c) r in
      by_parts r c s w
      ∙ ap (λ y. y ⊕ (sum o g r ⊕ sum o h r)) (columns_sum r f c ∙ sum_swap 𝓡 f c r)
      ∙ ap (λ y. F ⊕ y) (sym (sum_plus 𝓡 g h r))
      ∙ sym (sum_plus 𝓡 (λ i. sum o (λ j. f j i) c) (λ i. g i ⊕ h i) r)

  -- two pairings are equal where their rows are
  pub by_rows : (r c : ℕ) (s w s' w' : Lane M) → ((i : ℕ) → i < r → row_pairing c s w i ≡ row_pairing c s' w' i) → pairing o r c s w ≡ pairing o r c s' w'
  by_rows r c s w s' w' h = rows_sum r c s w ∙ sum_same o o.zero (row_pairing c s w) (row_pairing c s' w') r h ∙ sym (rows_sum r c s' w')

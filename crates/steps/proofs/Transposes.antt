-- Each step back is the transpose of the step forward, and so is each run. Assumes nothing.
use Rattle.std.proofs.Common.{◌≡◌, ℕ, ◌+◌, ◌-◌, Bool, true, false, cond, eqb, List, [], ◌∷◌, sym, refl, ap, ◌∙◌, arith}
use Rattle.std.proofs.lemmas.Bool.Decides.{nat_tests}
use Rattle.scalar.specs.Ops.{Ops, Ring}
use Rattle.scalar.specs.Sums.{sum}
use Rattle.scalar.specs.RingLaws.{times_zero}
use Rattle.differences.specs.Rows.{number}
use Rattle.steps.specs.States.{Lane, pairing}
use Rattle.index.specs.Transposes.{put}
use Rattle.steps.specs.Steps.{Step, given, fault}
use Rattle.steps.specs.Actions.{row, nth, forward_by, back_by, forward, back}
use Rattle.steps.specs.Runs.{taken, carried, run, carry, Transposed}
use Rattle.steps.specs.declared.kind.Kind.{Kind}
use Rattle.steps.specs.declared.kind.Kind.TheVariants.{Update, Cols, SumCol, AddCol, SetCol, Axpy, Copy, Scale, Gather, Scatter}
use Rattle.steps.proofs.Sums.{ring, times_plus}
use Rattle.steps.proofs.Accepted.{Lawful, accepted}
use Rattle.steps.proofs.Pairings.{tables, by_parts, by_rows}
use Rattle.steps.proofs.Lists.{raised, replaced, settled_sum, gather_sum}
use Rattle.steps.proofs.Products.{blend_plain, cols_row, sumcol_row}
use Rattle.steps.proofs.Updates.{update_row}

module _ {M : Type 0} {o : Ops M} (𝓡 : Ring o) where
  infixl 60 ◌⊕◌
  infixl 70 ◌⊗◌
  abbrev ◌⊕◌ : M → M → M
  a ⊕ b = o.plus a b

  abbrev ◌⊗◌ : M → M → M
  a ⊗ b = o.times a b

  -- the products of row i's entries of the table
  abbrev row_sum : ℕ → Lane M → Lane M → ℕ → M
  row_sum c s w i = sum o (λ j. s.table j i ⊗ w.table j i) c

  kind_transposed : (r c : ℕ) (k : Kind) (ms : List M) (ks : List ℕ) → Lawful r c k ks → (s w : Lane M)
      → pairing o r c (forward_by o k ms ks s) w ≡ pairing o r c s (back_by o k ms ks w)
  kind_transposed r c (Update k) ms ks h s w =
      let inside = h.inside in
      by_rows 𝓡 r c (forward_by o (Update k) ms ks s) w s (back_by o (Update k) ms ks w)
      (λ i _. update_row 𝓡 c k (grind (arith, nat_tests)) (row s i) (row w i) (s.first i) (w.first i) (s.second i ⊗ w.second i))
  kind_transposed r c (Cols k) ms ks h s w =
      let inside = h.inside in
      by_rows 𝓡 r c (forward_by o (Cols k) ms ks s) w s (back_by o (Cols k) ms ks w)
      (λ i _. ap (λ z. z ⊕ (s.first i ⊗ w.first i ⊕ s.second i ⊗ w.second i)) (cols_row 𝓡 c k (grind (arith, nat_tests)) (row s i) (row w i) (number o k ms)))
  kind_transposed r c (SumCol start end) ms ks h s w =
      let inside = h.inside in
      by_rows 𝓡 r c (forward_by o (SumCol start end) ms ks s) w s (back_by o (SumCol start end) ms ks w)
      (λ i _. sumcol_row 𝓡 c start (end - start) (grind (arith, nat_tests)) (row s i) (row w i) (λ l. nth o ms (2 + l)) (nth o ms 0) (nth o ms 1) (s.first i) (w.first i) (s.second i ⊗ w.second i))
  kind_transposed r c (AddCol j) ms ks h s w =
      let inside = h.inside in
      by_rows 𝓡 r c (forward_by o (AddCol j) ms ks s) w s (back_by o (AddCol j) ms ks w)
      (λ i _.
      sorted (row_sum c s w i) (s.first i) (s.table j i) (w.first i) (s.second i ⊗ w.second i)
      ∙ ap (λ z. z ⊕ (s.first i ⊗ w.first i ⊕ s.second i ⊗ w.second i)) (sym (raised 𝓡 (row s i) (row w i) j c (w.first i) (grind (arith, nat_tests)))))
    where
      sorted : (S u d p R : M) → S ⊕ ((u ⊕ d) ⊗ p ⊕ R) ≡ S ⊕ d ⊗ p ⊕ (u ⊗ p ⊕ R)
      sorted S u d p R = simp ring
  kind_transposed r c (SetCol j) ms ks h s w =
      let inside = h.inside in
      by_rows 𝓡 r c (forward_by o (SetCol j) ms ks s) w s (back_by o (SetCol j) ms ks w)
      (λ i _.
      let S = sum o (λ l. s.table l i ⊗ put (row w i) j o.zero l) c in
      ap (λ z. z ⊕ (s.first i ⊗ w.first i ⊕ s.second i ⊗ w.second i)) (replaced 𝓡 (row s i) (row w i) j c (s.first i) (grind (arith, nat_tests)))
      ∙ sorted S (s.first i) (w.table j i) (w.first i) (s.second i ⊗ w.second i))
    where
      sorted : (S u e p R : M) → S ⊕ u ⊗ e ⊕ (u ⊗ p ⊕ R) ≡ S ⊕ (u ⊗ (p ⊕ e) ⊕ R)
      sorted S u e p R = simp ring
  kind_transposed r c Axpy ms ks h s w =
      by_rows 𝓡 r c (forward_by o Axpy ms ks s) w s (back_by o Axpy ms ks w)
      (λ i _.
      ap (λ z. row_sum c s w i ⊕ (z ⊗ w.first i ⊕ s.second i ⊗ w.second i)) (blend_plain 𝓡 (nth o ms 0) (s.second i) (nth o ms 1) (s.first i))
      ∙ sorted (nth o ms 0) (nth o ms 1) (row_sum c s w i) (s.first i) (s.second i) (w.first i) (w.second i))
    where
      sorted : (a b S u v p q : M) → S ⊕ ((a ⊗ v ⊕ b ⊗ u) ⊗ p ⊕ v ⊗ q) ≡ S ⊕ (u ⊗ (p ⊗ b) ⊕ v ⊗ (q ⊕ a ⊗ p))
      sorted a b S u v p q = simp ring
  kind_transposed r c Copy ms ks h s w =
      by_rows 𝓡 r c (forward_by o Copy ms ks s) w s (back_by o Copy ms ks w)
      (λ i _. sorted (row_sum c s w i) (s.first i) (s.second i) (w.first i) (w.second i))
    where
      sorted : (S u v p q : M) → S ⊕ (u ⊗ p ⊕ u ⊗ q) ≡ S ⊕ (u ⊗ (p ⊕ q) ⊕ v ⊗ o.zero)
      sorted S u v p q =
          ap (λ z. S ⊕ z) (sym (times_plus 𝓡 u p q) ∙ sym (𝓡.plus_zero (u ⊗ (p ⊕ q))) ∙ ap (λ z. u ⊗ (p ⊕ q) ⊕ z) (sym (times_zero 𝓡 v)))
  kind_transposed r c Scale ms ks h s w =
      by_rows 𝓡 r c (forward_by o Scale ms ks s) w s (back_by o Scale ms ks w)
      (λ i _. sorted (nth o ms 0) (row_sum c s w i) (s.first i) (w.first i) (s.second i ⊗ w.second i))
    where
      sorted : (a S u p R : M) → S ⊕ ((u ⊗ a) ⊗ p ⊕ R) ≡ S ⊕ (u ⊗ (p ⊗ a) ⊕ R)
      sorted a S u p R = simp ring
  kind_transposed r c Gather ms ks h s w =
      by_parts 𝓡 r c (forward_by o Gather ms ks s) w
      ∙ ap (λ z. tables 𝓡 r c s w ⊕ z) (gather_sum 𝓡 r ks s.first s.second w.first w.second (h.entries refl) (h.below refl))
      ∙ sym (by_parts 𝓡 r c s (back_by o Gather ms ks w))
  kind_transposed r c Scatter ms ks h s w =
      let all = h.entries refl in
      by_parts 𝓡 r c (forward_by o Scatter ms ks s) w
      ∙ ap (λ z. tables 𝓡 r c s w ⊕ z) (settled_sum 𝓡 r ks 0 s.first s.second w.first w.second (omega arith) (h.below refl))
      ∙ sym (by_parts 𝓡 r c s (back_by o Scatter ms ks w))

  -- an accepted step
  pub forward_transposed : (r c : ℕ) (x : Step M) → fault r c x ≡ 0 → (s w : Lane M) → pairing o r c (forward o x s) w ≡ pairing o r c s (back o x w)
  forward_transposed r c x e = kind_transposed r c x.kind (given x.numbers) (given x.list) (accepted r c x e)

  -- any step
  pub step_transposed : (r c : ℕ) (x : Step M) (s w : Lane M) → pairing o r c (taken o r c x s) w ≡ pairing o r c s (carried o r c x w)
  step_transposed r c x s w = by (eqb (fault r c x) 0) refl
    where
      by : (t : Bool) → eqb (fault r c x) 0 ≡ t → pairing o r c (cond t (forward o x s) s) w ≡ pairing o r c s (cond t (back o x w) w)
      by true e = forward_transposed r c x (grind (arith, nat_tests)) s w
      by false e = refl

  -- any run
  run_transposed : (r c : ℕ) (xs : List (Step M)) (s w : Lane M) → pairing o r c (run o r c xs s) w ≡ pairing o r c s (carry o r c xs w)
  run_transposed r c [] s w = refl
  run_transposed r c (x ∷ xs) s w = run_transposed r c xs (taken o r c x s) w ∙ step_transposed r c x s (carry o r c xs w)

  pub runs_transposed : Transposed o
  runs_transposed = record { pairings = run_transposed }

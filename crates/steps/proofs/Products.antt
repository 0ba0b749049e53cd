-- A row's product with a matrix and with coefficients, and what its weights are on the way back. Assumes nothing.
use Rattle.std.proofs.Common.{◌≡◌, ℕ, zero, suc, ◌+◌, ◌-◌, ◌≤◌, Bool, true, false, cond, ◌&&◌, ltb, leb, sym, refl, ap, ◌∙◌, arith}
use Rattle.std.proofs.lemmas.Bool.Decides.{nat_tests}
use Rattle.scalar.specs.Ops.{Ops, Ring}
use Rattle.scalar.specs.Sums.{sum, sum_from}
use Rattle.scalar.proofs.SumLaws.{sum_same}
use Rattle.scalar.specs.RingLaws.{times_zero, zero_times}
use Rattle.vector.specs.Rows.{blend}
use Rattle.product.specs.Rows.{summed, spread}
use Rattle.product.proofs.RowLaws.{summed_linear}
use Rattle.differences.specs.Rows.{multiplied}
use Rattle.differences.proofs.RowLaws.{multiplied_in}
use Rattle.steps.specs.Actions.{total}
use Rattle.steps.proofs.Sums.{times_plus, one_times, sum_times, times_sum, sum_swap, sum_gain, sum_below, ring, times_assoc, times_comm}

module _ {M : Type 0} (o : Ops M) where
  -- where b is zero, what was there is not read
  pub summed_unread : (d : ℕ → M) (start n : ℕ) (a b : M) (x : ℕ → M) (y z : M) → o.is_zero b ≡ true → summed o d start n a b x y ≡ summed o d start n a b x z
  summed_unread d start zero a b x y z e = ap (λ t. cond t o.zero (o.times b y)) e ∙ sym (ap (λ t. cond t o.zero (o.times b z)) e)
  summed_unread d start (suc n) a b x y z e = ap (λ s. sum_from o s (λ l. o.times (o.times a (d (start + suc l))) (x (suc l))) n) (unread (o.times a (d start)) (x 0))
    where
      unread : (a x : M) → blend o a x b y ≡ blend o a x b z
      unread a x = ap (λ t. cond t (o.times a x) (o.plus (o.times a x) (o.times b y))) e ∙ sym (ap (λ t. cond t (o.times a x) (o.plus (o.times a x) (o.times b z))) e)

  pub multiplied_past : (x : ℕ → M) (k : ℕ) (m : ℕ → ℕ → M) (j : ℕ) → k ≤ j → multiplied o x k m j ≡ x j
  multiplied_past x k m j h = let a : ltb j k ≡ false = grind (arith, nat_tests) in ap (λ z. cond z (sum o (λ l. o.times (x l) (m j l)) k) (x j)) a

module _ {M : Type 0} {o : Ops M} (𝓡 : Ring o) where
  infixl 60 ◌⊕◌
  infixl 70 ◌⊗◌
  abbrev ◌⊕◌ : M → M → M
  a ⊕ b = o.plus a b

  abbrev ◌⊗◌ : M → M → M
  a ⊗ b = o.times a b

  -- ---- sums of columns: over a ring, b needs no rule of its own

  pub blend_plain : (a x b y : M) → blend o a x b y ≡ a ⊗ x ⊕ b ⊗ y
  blend_plain a x b y = by (o.is_zero b) refl
    where
      by : (t : Bool) → o.is_zero b ≡ t → cond t (a ⊗ x) (a ⊗ x ⊕ b ⊗ y) ≡ a ⊗ x ⊕ b ⊗ y
      by true e = sym (ap (λ z. a ⊗ x ⊕ z ⊗ y) (𝓡.zero_only b e) ∙ ap (λ z. a ⊗ x ⊕ z) (zero_times 𝓡 y) ∙ 𝓡.plus_zero (a ⊗ x))
      by false e = refl

  pub total_sum : (e : ℕ → M) (n : ℕ) → total o e n ≡ sum o e n
  total_sum e n =
      let f : ℕ → M = λ l. e (0 + l) ⊗ o.one in
      summed_linear o 𝓡 e 0 n o.one o.zero (λ l. o.one) o.zero
      ∙ ap (λ z. o.one ⊗ sum o f n ⊕ z) (times_zero 𝓡 o.zero)
      ∙ 𝓡.plus_zero (o.one ⊗ sum o f n)
      ∙ one_times 𝓡 (sum o f n)
      ∙ sum_same o o.zero f e n (λ l h. let q : 0 + l ≡ l = omega arith in 𝓡.times_one (e (0 + l)) ∙ ap e q)

  -- ---- the first k columns times a matrix: back by the transposed matrix

  -- the exchange of the two sums
  exchange : (k : ℕ) (x e : ℕ → M) (m : ℕ → ℕ → M) → sum o (λ j. sum o (λ l. x l ⊗ m j l) k ⊗ e j) k ≡ sum o (λ l. x l ⊗ sum o (λ j. e j ⊗ m j l) k) k
  exchange k x e m =
      sum_same o o.zero (λ j. sum o (λ l. x l ⊗ m j l) k ⊗ e j) (λ j. sum o (λ l. x l ⊗ (e j ⊗ m j l)) k) k
      (λ j h. sum_times 𝓡 (λ l. x l ⊗ m j l) (e j) k ∙ sum_same o o.zero (λ l. x l ⊗ m j l ⊗ e j) (λ l. x l ⊗ (e j ⊗ m j l)) k (λ l g. turn (x l) (m j l) (e j)))
      ∙ sum_swap 𝓡 (λ j l. x l ⊗ (e j ⊗ m j l)) k k
      ∙ sum_same o o.zero (λ l. sum o (λ j. x l ⊗ (e j ⊗ m j l)) k) (λ l. x l ⊗ sum o (λ j. e j ⊗ m j l) k) k
      (λ l h. sym (times_sum 𝓡 (λ j. e j ⊗ m j l) (x l) k))
    where
      turn : (A B C : M) → A ⊗ B ⊗ C ≡ A ⊗ (C ⊗ B)
      turn A B C = times_assoc 𝓡 A B C ∙ ap (λ z. A ⊗ z) (times_comm 𝓡 B C)

  pub cols_row : (c k : ℕ) → k ≤ c → (x e : ℕ → M) (m : ℕ → ℕ → M)
      → sum o (λ j. multiplied o x k m j ⊗ e j) c ≡ sum o (λ j. x j ⊗ multiplied o e k (λ j l. m l j) j) c
  cols_row c k h x e m =
      let mᵀ : ℕ → ℕ → M = λ j l. m l j in
      let f : ℕ → M = λ j. multiplied o x k m j ⊗ e j in
      let g : ℕ → M = λ j. x j ⊗ multiplied o e k mᵀ j in
      let front : sum o f k ≡ sum o g k =
      sum_same o o.zero f (λ j. sum o (λ l. x l ⊗ m j l) k ⊗ e j) k (λ j l. ap (λ z. z ⊗ e j) (multiplied_in o x k m j l))
      ∙ exchange k x e m
      ∙ sum_same o o.zero (λ j. x j ⊗ sum o (λ l. e l ⊗ m l j) k) g k (λ j l. ap (λ z. x j ⊗ z) (sym (multiplied_in o e k mᵀ j l))) in
      sum_below 𝓡 f g o.zero k c h (front ∙ sym (𝓡.plus_zero (sum o g k)))
      (λ j l. ap (λ z. z ⊗ e j) (multiplied_past o x k m j l) ∙ ap (λ z. x j ⊗ z) (sym (multiplied_past o e k mᵀ j l)))
      ∙ 𝓡.plus_zero (sum o g c)

  -- ---- n columns from start on onto b·u: back, the weight of u is spread over them

  spread_sum : (c start n : ℕ) → start + n ≤ c → (d e x : ℕ → M) (a p : M)
      → sum o (λ j. d j ⊗ spread o e start n a x p j) c ≡ sum o (λ j. d j ⊗ e j) c ⊕ (a ⊗ sum o (λ l. d (start + l) ⊗ x l) n) ⊗ p
  spread_sum c start zero h d e x a p =
      sum_same o o.zero (λ j. d j ⊗ spread o e start 0 a x p j) (λ j. d j ⊗ e j) c
      (λ j g. let t : (leb start j && ltb j (start + 0)) ≡ false = grind (arith, nat_tests) in ap (λ z. d j ⊗ cond z (e j ⊕ (a ⊗ x (j - start)) ⊗ p) (e j)) t)
      ∙ sym (ap (λ z. sum o (λ j. d j ⊗ e j) c ⊕ z) (ap (λ z. z ⊗ p) (times_zero 𝓡 a) ∙ zero_times 𝓡 p) ∙ 𝓡.plus_zero (sum o (λ j. d j ⊗ e j) c))
  spread_sum c start (suc n) h d e x a p =
      let X = sum o (λ l. d (start + l) ⊗ x l) n in
      let last = d (start + n) ⊗ x n in
      sum_gain 𝓡 (λ j. d j ⊗ spread o e start (suc n) a x p j) (λ j. d j ⊗ spread o e start n a x p j) ((a ⊗ last) ⊗ p) (start + n) c (omega arith)
      (here (start + n) n refl)
      (λ j ne.
      let t : (leb start j && ltb j (start + suc n)) ≡ (leb start j && ltb j (start + n)) = grind (arith, nat_tests) in
      ap (λ z. d j ⊗ cond z (e j ⊕ (a ⊗ x (j - start)) ⊗ p) (e j)) t)
      ∙ ap (λ z. z ⊕ (a ⊗ last) ⊗ p) (spread_sum c start n (omega arith) d e x a p)
      ∙ joined (sum o (λ j. d j ⊗ e j) c) X last
    where
      joined : (S X y : M) → S ⊕ (a ⊗ X) ⊗ p ⊕ (a ⊗ y) ⊗ p ≡ S ⊕ (a ⊗ (X ⊕ y)) ⊗ p
      joined S X y = simp ring

      regroup : (d a x p : M) → d ⊗ ((a ⊗ x) ⊗ p) ≡ (a ⊗ (d ⊗ x)) ⊗ p
      regroup d a x p = simp ring

      here : (j n : ℕ) → j ≡ start + n → d j ⊗ spread o e start (suc n) a x p j ≡ d j ⊗ spread o e start n a x p j ⊕ (a ⊗ (d j ⊗ x n)) ⊗ p
      here j n q =
          let t : (leb start j && ltb j (start + suc n)) ≡ true = grind (arith, nat_tests) in
          let f : (leb start j && ltb j (start + n)) ≡ false = grind (arith, nat_tests) in
          let m : j - start ≡ n = omega arith in
          ap (λ z. d j ⊗ cond z (e j ⊕ (a ⊗ x (j - start)) ⊗ p) (e j)) t
          ∙ ap (λ z. d j ⊗ (e j ⊕ (a ⊗ x z) ⊗ p)) m
          ∙ times_plus 𝓡 (d j) (e j) ((a ⊗ x n) ⊗ p)
          ∙ ap (λ z. d j ⊗ e j ⊕ z) (regroup (d j) a (x n) p)
          ∙ ap (λ z. d j ⊗ cond z (e j ⊕ (a ⊗ x (j - start)) ⊗ p) (e j) ⊕ (a ⊗ (d j ⊗ x n)) ⊗ p) (sym f)

  pub sumcol_row : (c start n : ℕ) → start + n ≤ c → (d e x : ℕ → M) (a b u p R : M)
      → sum o (λ j. d j ⊗ e j) c ⊕ (summed o d start n a b x u ⊗ p ⊕ R)
      ≡ sum o (λ j. d j ⊗ spread o e start n a x p j) c ⊕ (u ⊗ (p ⊗ b) ⊕ R)
  sumcol_row c start n h d e x a b u p R =
      let S = sum o (λ j. d j ⊗ e j) c in
      let X = sum o (λ l. d (start + l) ⊗ x l) n in
      ap (λ z. S ⊕ (z ⊗ p ⊕ R)) (summed_linear o 𝓡 d start n a b x u)
      ∙ sorted S X
      ∙ ap (λ z. z ⊕ (u ⊗ (p ⊗ b) ⊕ R)) (sym (spread_sum c start n h d e x a p))
    where
      sorted : (S X : M) → S ⊕ ((a ⊗ X ⊕ b ⊗ u) ⊗ p ⊕ R) ≡ S ⊕ (a ⊗ X) ⊗ p ⊕ (u ⊗ (p ⊗ b) ⊕ R)
      sorted S X = simp ring

-- One entry set or raised, and what a list of rows does to a sum of products. Assumes nothing.
use Rattle.std.proofs.Common.{◌≡◌, ℕ, suc, ◌+◌, ◌<◌, ◌≤◌, true, false, cond, eqb, ◌≢◌, List, [], ◌∷◌, length, get_or, sym, refl, ap, ◌∙◌, arith}
use Rattle.std.proofs.lemmas.Bool.Decides.{nat_tests}
use Rattle.scalar.specs.Ops.{Ops, Ring}
use Rattle.scalar.specs.Sums.{sum}
use Rattle.scalar.proofs.SumLaws.{sum_same}
use Rattle.scalar.specs.RingLaws.{zero_plus, times_zero}
use Rattle.index.specs.Indices.{outside, settled}
use Rattle.index.specs.Transposes.{put, scattered_back, gathered_back}
use Rattle.steps.proofs.Sums.{plus_assoc, plus_comm, times_plus, sum_zero, sum_gain, sum_front, sorts}

pub put_same : {A : Type 0} (f : ℕ → A) (k : ℕ) (x : A) → put f k x k ≡ x
put_same f k x = let a : eqb k k ≡ true = grind (arith, nat_tests) in ap (λ z. cond z x (f k)) a

pub put_other : {A : Type 0} (f : ℕ → A) (k : ℕ) (x : A) (l : ℕ) → l ≢ k → put f k x l ≡ f l
put_other f k x l h = let a : eqb k l ≡ false = grind (arith, nat_tests) in ap (λ z. cond z x (f l)) a

module _ {M : Type 0} {o : Ops M} (𝓡 : Ring o) where
  infixl 60 ◌⊕◌
  infixl 70 ◌⊗◌
  abbrev ◌⊕◌ : M → M → M
  a ⊕ b = o.plus a b

  abbrev ◌⊗◌ : M → M → M
  a ⊗ b = o.times a b

  -- weights raised by x at k give f k times x more
  pub raised : (f g : ℕ → M) (k n : ℕ) (x : M) → k < n → sum o (λ l. f l ⊗ put g k (g k ⊕ x) l) n ≡ sum o (λ l. f l ⊗ g l) n ⊕ f k ⊗ x
  raised f g k n x h =
      sum_gain 𝓡 (λ l. f l ⊗ put g k (g k ⊕ x) l) (λ l. f l ⊗ g l) (f k ⊗ x) k n h
      (ap (λ z. f k ⊗ z) (put_same g k (g k ⊕ x)) ∙ times_plus 𝓡 (f k) (g k) x)
      (λ l ne. ap (λ z. f l ⊗ z) (put_other g k (g k ⊕ x) l ne))

  -- x in the place of f k gives what the weights without k give, and x times the weight at k
  pub replaced : (f g : ℕ → M) (k n : ℕ) (x : M) → k < n → sum o (λ l. put f k x l ⊗ g l) n ≡ sum o (λ l. f l ⊗ put g k o.zero l) n ⊕ x ⊗ g k
  replaced f g k n x h =
      sum_gain 𝓡 (λ l. put f k x l ⊗ g l) (λ l. f l ⊗ put g k o.zero l) (x ⊗ g k) k n h
      (ap (λ z. z ⊗ g k) (put_same f k x)
      ∙ sym (ap (λ z. f k ⊗ z ⊕ x ⊗ g k) (put_same g k o.zero) ∙ ap (λ z. z ⊕ x ⊗ g k) (times_zero 𝓡 (f k)) ∙ zero_plus 𝓡 (x ⊗ g k)))
      (λ l ne. ap (λ z. z ⊗ g l) (put_other f k x l ne) ∙ ap (λ z. f l ⊗ z) (sym (put_other g k o.zero l ne)))

  pub settled_sum : (r : ℕ) (ks : List ℕ) (i : ℕ) (u v p q : ℕ → M) → i + length ks ≤ r → outside r ks ≡ false
      → sum o (λ l. u l ⊗ p l) r ⊕ sum o (λ l. settled ks i l u (v l) ⊗ q l) r
      ≡ sum o (λ l. u l ⊗ (scattered_back o ks i p q).0 l) r ⊕ sum o (λ l. v l ⊗ (scattered_back o ks i p q).1 l) r
  settled_sum r [] i u v p q h b = refl
  settled_sum r (k ∷ ks) i u v p q h b =
      let p' = (scattered_back o ks (suc i) p q).0 in
      let q' = (scattered_back o ks (suc i) p q).1 in
      let U = sum o (λ l. u l ⊗ p' l) r in
      let V = sum o (λ l. v l ⊗ put q' k o.zero l) r in
      settled_sum r ks (suc i) u (put v k (u i)) p q (omega arith) (grind (arith, nat_tests))
      ∙ ap (λ z. U ⊕ z) (replaced v q' k r (u i) (grind (arith, nat_tests)))
      ∙ swap U V (u i ⊗ q' k)
      ∙ ap (λ z. z ⊕ V) (sym (raised u p' i r (q' k) (omega arith)))
    where
      swap : (A B C : M) → A ⊕ (B ⊕ C) ≡ A ⊕ C ⊕ B
      swap A B C = simp sorts

  gathered_sum : (r : ℕ) (ks : List ℕ) (i : ℕ) (v p q : ℕ → M) → outside r ks ≡ false
      → sum o (λ l. v l ⊗ gathered_back o ks i p q l) r ≡ sum o (λ l. v l ⊗ q l) r ⊕ sum o (λ t. v (get_or ks t 0) ⊗ p (i + t)) (length ks)
  gathered_sum r [] i v p q b = sym (𝓡.plus_zero (sum o (λ l. v l ⊗ q l) r))
  gathered_sum r (k ∷ ks) i v p q b =
      let V = sum o (λ l. v l ⊗ q l) r in
      let f : ℕ → M = λ t. v (get_or (k ∷ ks) t 0) ⊗ p (i + t) in
      let here : i ≡ i + 0 = omega arith in
      gathered_sum r ks (suc i) v p (put q k (q k ⊕ p i)) (grind (arith, nat_tests))
      ∙ ap (λ z. z ⊕ sum o (λ t. v (get_or ks t 0) ⊗ p (suc i + t)) (length ks)) (raised v q k r (p i) (grind (arith, nat_tests)))
      ∙ ap (λ z. V ⊕ v k ⊗ p i ⊕ z)
      (sum_same o o.zero (λ t. v (get_or ks t 0) ⊗ p (suc i + t)) (λ t. f (suc t)) (length ks)
      (λ t h. let e : suc i + t ≡ i + suc t = omega arith in ap (λ z. v (get_or ks t 0) ⊗ p z) e))
      ∙ ap (λ z. V ⊕ v k ⊗ p z ⊕ sum o (λ t. f (suc t)) (length ks)) here
      ∙ plus_assoc 𝓡 V (f 0) (sum o (λ t. f (suc t)) (length ks))
      ∙ ap (λ z. V ⊕ z) (sym (sum_front 𝓡 f (length ks)))

  pub gather_sum : (r : ℕ) (ks : List ℕ) (u v p q : ℕ → M) → length ks ≡ r → outside r ks ≡ false
      → sum o (λ i. v (get_or ks i 0) ⊗ p i) r ⊕ sum o (λ i. v i ⊗ q i) r ≡ sum o (λ i. u i ⊗ o.zero) r ⊕ sum o (λ i. v i ⊗ gathered_back o ks 0 p q i) r
  gather_sum r ks u v p q e b =
      let V = sum o (λ i. v i ⊗ q i) r in
      let G = sum o (λ i. v (get_or ks i 0) ⊗ p i) r in
      let Q = sum o (λ i. v i ⊗ gathered_back o ks 0 p q i) r in
      let none : sum o (λ i. u i ⊗ o.zero) r ≡ o.zero = sum_same o o.zero (λ i. u i ⊗ o.zero) (λ i. o.zero) r (λ i h. times_zero 𝓡 (u i)) ∙ sum_zero 𝓡 r in
      let shifted : sum o (λ t. v (get_or ks t 0) ⊗ p (0 + t)) (length ks) ≡ G =
      ap (sum o (λ t. v (get_or ks t 0) ⊗ p (0 + t))) e
      ∙ sum_same o o.zero (λ t. v (get_or ks t 0) ⊗ p (0 + t)) (λ t. v (get_or ks t 0) ⊗ p t) r (λ t h. let q : 0 + t ≡ t = omega arith in ap (λ z. v (get_or ks t 0) ⊗ p z) q) in
      plus_comm 𝓡 G V
      ∙ ap (λ z. V ⊕ z) (sym shifted)
      ∙ sym (gathered_sum r ks 0 v p q b)
      ∙ sym (ap (λ z. z ⊕ Q) none ∙ zero_plus 𝓡 Q)

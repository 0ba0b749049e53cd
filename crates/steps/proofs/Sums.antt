-- The laws of finite sums over a ring. Assumes nothing.
use Rattle.std.proofs.Common.{◌≡◌, ℕ, zero, suc, ◌<◌, ◌≤◌, ◌≢◌, sym, refl, ap, ◌∙◌, subst, ⊎_elim, eq-or-lt_of_le, arith}
use Rattle.scalar.specs.Ops.{Ops, Ring}
use Rattle.scalar.specs.Sums.{sum, sum_from}
use Rattle.scalar.proofs.SumLaws.{sum_same}
use Rattle.scalar.specs.RingLaws as law
use Rattle.scalar.specs.RingLaws.{times_zero, zero_times, plus_swap}

module _ {M : Type 0} {o : Ops M} (𝓡 : Ring o) where
  infixl 60 ◌⊕◌
  infixl 70 ◌⊗◌
  abbrev ◌⊕◌ : M → M → M
  a ⊕ b = o.plus a b

  abbrev ◌⊗◌ : M → M → M
  a ⊗ b = o.times a b

  -- ---- the laws by which simp sorts sums and products

  pub plus_assoc : (a b c : M) → a ⊕ b ⊕ c ≡ a ⊕ (b ⊕ c)
  plus_assoc = 𝓡.plus_assoc

  pub plus_comm : (a b : M) → a ⊕ b ≡ b ⊕ a
  plus_comm = 𝓡.plus_comm

  pub plus_left : (a b c : M) → a ⊕ (b ⊕ c) ≡ b ⊕ (a ⊕ c)
  plus_left a b c = sym (plus_assoc a b c) ∙ ap (λ x. x ⊕ c) (plus_comm a b) ∙ plus_assoc b a c

  pub times_assoc : (a b c : M) → a ⊗ b ⊗ c ≡ a ⊗ (b ⊗ c)
  times_assoc = 𝓡.times_assoc

  pub times_comm : (a b : M) → a ⊗ b ≡ b ⊗ a
  times_comm = 𝓡.times_comm

  pub times_left : (a b c : M) → a ⊗ (b ⊗ c) ≡ b ⊗ (a ⊗ c)
  times_left a b c = sym (times_assoc a b c) ∙ ap (λ x. x ⊗ c) (times_comm a b) ∙ times_assoc b a c

  pub times_plus : (a b c : M) → a ⊗ (b ⊕ c) ≡ a ⊗ b ⊕ a ⊗ c
  times_plus = 𝓡.times_plus

  pub plus_times : (a b c : M) → (a ⊕ b) ⊗ c ≡ a ⊗ c ⊕ b ⊗ c
  plus_times = law.plus_times 𝓡

  pub one_times : (a : M) → o.one ⊗ a ≡ a
  one_times a = times_comm o.one a ∙ 𝓡.times_one a

  pub ruleset sorts = (plus_assoc, plus_left, plus_comm)

  pub ruleset ring = (times_plus, plus_times, plus_assoc, plus_left, plus_comm, times_assoc, times_left, times_comm)

  pub cancel : (a b c : M) → a ⊕ c ≡ b ⊕ c → a ≡ b
  cancel a b c h =
      let e = ap (λ x. x ⊕ o.minus c) h in
      cc (plus_assoc a c (o.minus c), plus_assoc b c (o.minus c), 𝓡.plus_minus c, 𝓡.plus_zero a, 𝓡.plus_zero b)

  pub times_minus : (a b : M) → a ⊗ o.minus b ≡ o.minus a ⊗ b
  times_minus a b =
      cancel (a ⊗ o.minus b) (o.minus a ⊗ b) (a ⊗ b)
      (plus_comm (a ⊗ o.minus b) (a ⊗ b) ∙ sym (times_plus a b (o.minus b)) ∙ ap (λ x. a ⊗ x) (𝓡.plus_minus b) ∙ times_zero 𝓡 a
      ∙ sym (plus_comm (o.minus a ⊗ b) (a ⊗ b) ∙ sym (plus_times a (o.minus a) b) ∙ ap (λ x. x ⊗ b) (𝓡.plus_minus a) ∙ zero_times 𝓡 b))

  -- ---- sums

  pub from_sum : (a : M) (f : ℕ → M) (n : ℕ) → sum_from o a f n ≡ a ⊕ sum o f n
  from_sum a f zero = sym (𝓡.plus_zero a)
  from_sum a f (suc n) = ap (λ x. x ⊕ f n) (from_sum a f n) ∙ plus_assoc a (sum o f n) (f n)

  pub sum_plus : (f g : ℕ → M) (n : ℕ) → sum o (λ k. f k ⊕ g k) n ≡ sum o f n ⊕ sum o g n
  sum_plus f g zero = sym (𝓡.plus_zero o.zero)
  sum_plus f g (suc n) = ap (λ x. x ⊕ (f n ⊕ g n)) (sum_plus f g n) ∙ plus_swap 𝓡 (sum o f n) (sum o g n) (f n) (g n)

  pub sum_zero : (n : ℕ) → sum o (λ k. o.zero) n ≡ o.zero
  sum_zero zero = refl
  sum_zero (suc n) = 𝓡.plus_zero (sum o (λ k. o.zero) n) ∙ sum_zero n

  pub sum_times : (f : ℕ → M) (a : M) (n : ℕ) → sum o f n ⊗ a ≡ sum o (λ k. f k ⊗ a) n
  sum_times f a zero = zero_times 𝓡 a
  sum_times f a (suc n) = plus_times (sum o f n) (f n) a ∙ ap (λ x. x ⊕ f n ⊗ a) (sum_times f a n)

  pub times_sum : (f : ℕ → M) (a : M) (n : ℕ) → a ⊗ sum o f n ≡ sum o (λ k. a ⊗ f k) n
  times_sum f a zero = times_zero 𝓡 a
  times_sum f a (suc n) = times_plus a (sum o f n) (f n) ∙ ap (λ x. x ⊕ a ⊗ f n) (times_sum f a n)

  -- the order of two sums
  pub sum_swap : (f : ℕ → ℕ → M) (m n : ℕ) → sum o (λ j. sum o (f j) n) m ≡ sum o (λ i. sum o (λ j. f j i) m) n
  sum_swap f zero n = sym (sum_zero n)
  sum_swap f (suc m) n = ap (λ x. x ⊕ sum o (f m) n) (sum_swap f m n) ∙ sym (sum_plus (λ i. sum o (λ j. f j i) m) (f m) n)

  -- one term gains x
  pub sum_gain : (f g : ℕ → M) (x : M) (j n : ℕ) → j < n → f j ≡ g j ⊕ x → ((k : ℕ) → k ≢ j → f k ≡ g k) → sum o f n ≡ sum o g n ⊕ x
  sum_gain f g x j zero h e other = absurd (omega arith)
  sum_gain f g x j (suc n) h e other =
      ⊎_elim
      (λ q.
      let front = sum_same o o.zero f g n (λ k l. other k (omega arith)) in
      let last = subst (λ (m : ℕ). f m ≡ g m ⊕ x) q e in
      ap (λ y. y ⊕ f n) front ∙ ap (λ y. sum o g n ⊕ y) last ∙ sym (plus_assoc (sum o g n) (g n) x))
      (λ l.
      ap (λ y. y ⊕ f n) (sum_gain f g x j n l e other) ∙ ap (λ y. sum o g n ⊕ x ⊕ y) (other n (omega arith)) ∙ simp sorts)
      (eq-or-lt_of_le {n = j} {m = n} (omega arith))

  -- the first term apart
  pub sum_front : (f : ℕ → M) (n : ℕ) → sum o f (suc n) ≡ f 0 ⊕ sum o (λ k. f (suc k)) n
  sum_front f zero = plus_comm o.zero (f 0)
  sum_front f (suc n) = ap (λ y. y ⊕ f (suc n)) (sum_front f n) ∙ plus_assoc (f 0) (sum o (λ k. f (suc k)) n) (f (suc n))

  -- the same terms from m on
  pub sum_below : (f g : ℕ → M) (x : M) (m n : ℕ) → m ≤ n → sum o f m ≡ sum o g m ⊕ x → ((k : ℕ) → m ≤ k → f k ≡ g k) → sum o f n ≡ sum o g n ⊕ x
  sum_below f g x m zero h e z = let q : m ≡ 0 = omega arith in subst (λ (k : ℕ). sum o f k ≡ sum o g k ⊕ x) q e
  sum_below f g x m (suc n) h e z =
      ⊎_elim
      (λ q. subst (λ (k : ℕ). sum o f k ≡ sum o g k ⊕ x) q e)
      (λ l.
      ap (λ y. y ⊕ f n) (sum_below f g x m n (omega arith) e z) ∙ ap (λ y. sum o g n ⊕ x ⊕ y) (z n (omega arith)) ∙ simp sorts)
      (eq-or-lt_of_le {n = m} {m = suc n} h)

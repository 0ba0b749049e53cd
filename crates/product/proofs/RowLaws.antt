-- The row functions: rows that agree, a column of the range, and BLAS's definition over a ring. Assumes nothing.
use Rattle.std.proofs.Common.{◌≡◌, ℕ, zero, suc, ◌+◌, ◌-◌, ◌<◌, ◌≤◌, Bool, true, false, cond, ◌&&◌, ltb, leb, sym, refl, ap, ◌∙◌, ap₂, add-zero, arith}
use Rattle.std.proofs.lemmas.Bool.{cond-true, lt-ltb, le-leb, and_from}
use Rattle.scalar.specs.Ops.{Ops, Ring}
use Rattle.scalar.specs.Sums.{sum, sum_from}
use Rattle.scalar.proofs.SumLaws.{sum_same}
use Rattle.scalar.specs.RingLaws.{zero_plus, times_zero, zero_times}
use Rattle.vector.specs.Rows.{blend}
use Rattle.product.specs.Rows.{summed, linear, spread}

module _ {M : Type 0} (o : Ops M) where
  -- the same columns, counted from other starts
  pub summed_cong : (d d' : ℕ → M) (start start' n : ℕ) (a b : M) (x x' : ℕ → M) (y y' : M)
      → ((l : ℕ) → l < n → d (start + l) ≡ d' (start' + l)) → ((l : ℕ) → l < n → x l ≡ x' l) → y ≡ y'
      → summed o d start n a b x y ≡ summed o d' start' n a b x' y'
  summed_cong d d' start start' zero a b x x' y y' cols coeffs old = ap (λ z. cond (o.is_zero b) o.zero (o.times b z)) old
  summed_cong d d' start start' (suc n) a b x x' y y' cols coeffs old =
      let first : d start ≡ d' start' = ap d (sym (add-zero start)) ∙ cols 0 (omega arith) ∙ ap d' (add-zero start') in
      let x-first = coeffs 0 (omega arith) in
      ap (λ z. sum_from o z (λ l. o.times (o.times a (d (start + suc l))) (x (suc l))) n)
      (ap (λ z. blend o (o.times a z) (x 0) b y) first ∙ ap (λ z. blend o (o.times a (d' start')) z b y) x-first
      ∙ ap (λ z. blend o (o.times a (d' start')) (x' 0) b z) old)
      ∙ sum_same o _ _ _ n
      (λ l h. ap₂ (λ p q. o.times (o.times a p) q) (cols (suc l) (omega arith)) (coeffs (suc l) (omega arith)))

  -- a column of the range
  pub spread_in : (e : ℕ → M) (start n : ℕ) (a : M) (x : ℕ → M) (p : M) (j : ℕ) → start ≤ j → j < start + n
      → spread o e start n a x p j ≡ o.plus (e j) (o.times (o.times a (x (j - start))) p)
  spread_in e start n a x p j h l = cond-true (leb start j && ltb j (start + n)) _ _ (and_from _ _ (le-leb start j h) (lt-ltb j (start + n) l))

module _ {M : Type 0} (o : Ops M) (r : Ring o) where
  -- the rule for b = 0 is no exception
  blend_linear : (t : Bool) (p b y : M) → (t ≡ true → b ≡ o.zero) → cond t p (o.plus p (o.times b y)) ≡ o.plus p (o.times b y)
  blend_linear true p b y z = sym (ap (λ c. o.plus p (o.times c y)) (z refl) ∙ ap (o.plus p) (zero_times r y) ∙ r.plus_zero p)
  blend_linear false p b y z = refl

  none_linear : (t : Bool) (b y : M) → (t ≡ true → b ≡ o.zero) → cond t o.zero (o.times b y) ≡ o.times b y
  none_linear true b y z = sym (ap (λ c. o.times c y) (z refl) ∙ zero_times r y)
  none_linear false b y z = refl

  -- b·y may be added first or last
  add_last : (p q : M) (f : ℕ → M) (n : ℕ) → sum_from o (o.plus p q) f n ≡ o.plus (sum_from o p f n) q
  add_last p q f zero = refl
  add_last p q f (suc n) =
      ap (λ z. o.plus z (f n)) (add_last p q f n)
      ∙ r.plus_assoc (sum_from o p f n) q (f n) ∙ ap (o.plus (sum_from o p f n)) (r.plus_comm q (f n))
      ∙ sym (r.plus_assoc (sum_from o p f n) (f n) q)

  -- the factor a may be taken before the sum
  factor_out : (d x : ℕ → M) (start n : ℕ) (a : M)
      → sum_from o (o.times (o.times a (d start)) (x 0)) (λ l. o.times (o.times a (d (start + suc l))) (x (suc l))) n
      ≡ o.times a (sum o (λ l. o.times (d (start + l)) (x l)) (suc n))
  factor_out d x start zero a =
      r.times_assoc a (d start) (x 0)
      ∙ ap (o.times a) (ap (λ z. o.times (d z) (x 0)) (sym (add-zero start)) ∙ sym (zero_plus r (o.times (d (start + 0)) (x 0))))
  factor_out d x start (suc n) a =
      ap₂ o.plus (factor_out d x start n a) (r.times_assoc a (d (start + suc n)) (x (suc n)))
      ∙ sym (r.times_plus a (sum o (λ l. o.times (d (start + l)) (x l)) (suc n)) (o.times (d (start + suc n)) (x (suc n))))

  pub summed_linear : (d : ℕ → M) (start n : ℕ) (a b : M) (x : ℕ → M) (y : M) → summed o d start n a b x y ≡ linear o d start n a b x y
  summed_linear d start zero a b x y =
      none_linear (o.is_zero b) b y (r.zero_only b) ∙ sym (ap (λ z. o.plus z (o.times b y)) (times_zero r a) ∙ zero_plus r (o.times b y))
  summed_linear d start (suc n) a b x y =
      let p = o.times (o.times a (d start)) (x 0) in
      let f : ℕ → M = λ l. o.times (o.times a (d (start + suc l))) (x (suc l)) in
      ap (λ z. sum_from o z f n) (blend_linear (o.is_zero b) p b y (r.zero_only b))
      ∙ add_last p (o.times b y) f n
      ∙ ap (λ z. o.plus z (o.times b y)) (factor_out d x start n a)

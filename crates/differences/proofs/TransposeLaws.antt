-- The sum of columns with ones for coefficients, and what the constant matrix makes of a row over a ring. Assumes nothing.
use Rattle.std.proofs.Common.{◌≡◌, ℕ, zero, suc, ◌+◌, ◌<◌, ◌≤◌, true, cond, ◌&&◌, eqb, leb, sym, refl, ap, ◌∙◌, ap₂, inl, inr, arith}
use Rattle.std.proofs.lemmas.Bool.{cond-true, cond-false, cases_lt, le-leb, lt-leb, eq-eqb, ne_eqb, and_left, and_right, and_from}
use Rattle.scalar.specs.Ops.{Ops, Ring}
use Rattle.scalar.specs.Sums.{sum, sum_from}
use Rattle.scalar.specs.RingLaws.{zero_plus, times_zero}
use Rattle.scalar.proofs.SumLaws.{sum_next, sum_same}
use Rattle.product.specs.Rows.{summed}
use Rattle.differences.specs.Rows.{multiplied, transposed}
use Rattle.differences.proofs.RowLaws.{multiplied_in}

-- with ones, and zero for b, the old entry is not read
pub summed_ones : {M : Type 0} (o : Ops M) → o.is_zero o.zero ≡ true → (d : ℕ → M) (n : ℕ) (a b : M) (x : ℕ → M) (y : M) → 0 < n → a ≡ o.one → b ≡ o.zero → ((l : ℕ) → l < n → x l ≡ o.one)
    → summed o d 0 n a b x y ≡ summed o d 0 n o.one o.zero (λ l. o.one) o.zero
summed_ones o z d zero a b x y some is_one is_zero ones = absurd (omega arith)
summed_ones o z d (suc n) a b x y some is_one is_zero ones =
    let first-is-one = ones 0 (omega arith) in
    let first : o.times (o.times a (d 0)) (x 0) ≡ o.times (o.times o.one (d 0)) o.one = cc in
    ap (λ w. sum_from o w (λ l. o.times (o.times a (d (0 + suc l))) (x (suc l))) n)
    (cond-true (o.is_zero b) _ _ (ap o.is_zero is_zero ∙ z) ∙ first ∙ sym (cond-true (o.is_zero o.zero) _ _ z))
    ∙ sum_same o _ (λ l. o.times (o.times a (d (0 + suc l))) (x (suc l))) (λ l. o.times (o.times o.one (d (0 + suc l))) o.one) n (λ l m. let e = ones (suc l) (omega arith) in cc)

module _ {M : Type 0} (o : Ops M) (r : Ring o) where
  -- ---- sums

  -- the first term in place of zero
  sum_front : (x : ℕ → M) (n : ℕ) → sum_from o (x 0) (λ l. x (suc l)) n ≡ sum o x (suc n)
  sum_front x zero = sym (zero_plus r (x 0))
  sum_front x (suc n) = ap (λ z. o.plus z (x (suc n))) (sum_front x n)

  -- terms from m on that are zero
  sum_upto : (f g : ℕ → M) (m n : ℕ) → m ≤ n → ((l : ℕ) → l < m → f l ≡ g l) → ((l : ℕ) → m ≤ l → f l ≡ o.zero) → sum o f n ≡ sum o g m
  sum_upto f g m zero h same none = let e : m ≡ 0 = omega arith in rw e refl
  sum_upto f g m (suc n) h same none = elim (cases_lt n m) [
    | inl all ↦ let e : m ≡ suc n = omega arith in ap (sum o f) (sym e) ∙ sum_same o o.zero f g m same
    | inr less ↦ ap₂ o.plus (sum_upto f g m n less same none) (none n less) ∙ r.plus_zero (sum o g m)
  ]

  -- ---- one and minus one as factors

  times_minus_one : (a : M) → o.times a (o.minus o.one) ≡ o.minus a
  times_minus_one a =
      let n = o.times a (o.minus o.one) in
      let gone : o.plus a n ≡ o.zero =
      ap (λ z. o.plus z n) (sym (r.times_one a)) ∙ sym (r.times_plus a o.one (o.minus o.one)) ∙ ap (o.times a) (r.plus_minus o.one) ∙ times_zero r a in
      sym (zero_plus r n)
      ∙ ap (λ z. o.plus z n) (sym (r.plus_comm (o.minus a) a ∙ r.plus_minus a))
      ∙ r.plus_assoc (o.minus a) a n ∙ ap (o.plus (o.minus a)) gone ∙ r.plus_zero (o.minus a)

  one_times : (a : M) → o.times (o.times o.one a) o.one ≡ a
  one_times a = r.times_one (o.times o.one a) ∙ r.times_comm o.one a ∙ r.times_one a

  -- ---- the constant matrix

  pub transposed_sums : (x : ℕ → M) (k j : ℕ) → j ≤ k → multiplied o x (k + 3) (transposed o k) j ≡ sum o x (j + 1)
  transposed_sums x k j h =
      let row : (l : ℕ) → transposed o k j l ≡ cond (leb l j) o.one o.zero = λ l. cond-true (leb j k) _ _ (le-leb j k h) in
      multiplied_in o x (k + 3) (transposed o k) j (omega arith)
      ∙ sum_upto (λ l. o.times (x l) (transposed o k j l)) x (j + 1) (k + 3) (omega arith)
      (λ l low. ap (o.times (x l)) (row l ∙ cond-true (leb l j) _ _ (le-leb l j (omega arith))) ∙ r.times_one (x l))
      (λ l high. ap (o.times (x l)) (row l ∙ cond-false (leb l j) _ _ (lt-leb l j (omega arith))) ∙ times_zero r (x l))

  -- a row below row k
  low_row : (k j l : ℕ) → k < j → transposed o k j l ≡ cond (eqb j (k + 1) && eqb l (k + 2)) (o.minus o.one) o.zero
  low_row k j l h = cond-false (leb j k) _ _ (lt-leb j k h)

  pub transposed_negated : (x : ℕ → M) (k : ℕ) → multiplied o x (k + 3) (transposed o k) (k + 1) ≡ o.minus (x (k + 2))
  transposed_negated x k =
      let f : ℕ → M = λ l. o.times (x l) (transposed o k (k + 1) l) in
      let last : transposed o k (k + 1) (k + 2) ≡ o.minus o.one =
      low_row k (k + 1) (k + 2) (omega arith) ∙ cond-true (eqb (k + 1) (k + 1) && eqb (k + 2) (k + 2)) _ _ (and_from _ _ (eq-eqb (k + 1) (k + 1) refl) (eq-eqb (k + 2) (k + 2) refl)) in
      let none : sum o f (k + 2) ≡ o.zero =
      sum_same o o.zero f (λ l. o.zero) (k + 2)
      (λ l low. ap (o.times (x l)) (low_row k (k + 1) l (omega arith) ∙ cond-false (eqb (k + 1) (k + 1) && eqb l (k + 2)) _ _ (and_right _ _ (ne_eqb l (k + 2) (λ e. omega arith)))) ∙ times_zero r (x l))
      ∙ sum_upto (λ l. o.zero) x 0 (k + 2) (omega arith) (λ l low. absurd (omega arith)) (λ l high. refl) in
      let more : k + 3 ≡ k + 2 + 1 = omega arith in
      multiplied_in o x (k + 3) (transposed o k) (k + 1) (omega arith)
      ∙ ap (sum o f) more ∙ sum_next o o.zero f (k + 2)
      ∙ ap₂ o.plus none (ap (o.times (x (k + 2))) last ∙ times_minus_one (x (k + 2)))
      ∙ zero_plus r (o.minus (x (k + 2)))

  pub transposed_cleared : (x : ℕ → M) (k : ℕ) → multiplied o x (k + 3) (transposed o k) (k + 2) ≡ o.zero
  transposed_cleared x k =
      multiplied_in o x (k + 3) (transposed o k) (k + 2) (omega arith)
      ∙ sum_upto (λ l. o.times (x l) (transposed o k (k + 2) l)) x 0 (k + 3) (omega arith) (λ l low. absurd (omega arith))
      (λ l high. ap (o.times (x l)) (low_row k (k + 2) l (omega arith) ∙ cond-false (eqb (k + 2) (k + 1) && eqb l (k + 2)) _ _ (and_left _ _ (ne_eqb (k + 2) (k + 1) (λ e. omega arith)))) ∙ times_zero r (x l))

  -- ---- the sum in d

  pub ones_sum : o.is_zero o.zero ≡ true → (x : ℕ → M) (n : ℕ) → 0 < n → summed o x 0 n o.one o.zero (λ l. o.one) o.zero ≡ sum o x n
  ones_sum z x zero some = absurd (omega arith)
  ones_sum z x (suc n) some =
      ap (λ w. sum_from o w (λ l. o.times (o.times o.one (x (0 + suc l))) o.one) n) (cond-true (o.is_zero o.zero) _ _ z ∙ one_times (x 0))
      ∙ sum_same o (x 0) (λ l. o.times (o.times o.one (x (0 + suc l))) o.one) (λ l. x (suc l)) n (λ l m. let e : 0 + suc l ≡ suc l = omega arith in one_times (x (0 + suc l)) ∙ ap x e)
      ∙ sum_front x n

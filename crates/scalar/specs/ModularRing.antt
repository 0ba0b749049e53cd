-- The numbers modulo m are a set, and a commutative ring. Assumes nothing.
use Rattle.std.specs.Prelude.{◌≡◌, ℕ, ◌+◌, ◌-◌, ◌*◌, ◌/◌, ◌%◌, ◌<◌}
use Rattle.std.proofs.Common.{sym, ap, ◌∙◌, mod-lt, add_assoc, add_comm, mul_assoc, mul_comm, mul-add, mod-eq_of_lt, add-zero, zero-add, mul-one, arith, eqb-true}
use Rattle.std.proofs.Math.Decide.{ℕ_discrete}
use mathlib.Core.HLevel.{is_prop→PathP, hedberg, Discrete}
use Rattle.std.proofs.Math.Nat.{mod-mod, mod_self, add-mod, mod-add-mod, add-mod-mod, mul-add-mod_self_left, div-add-mod, zero-mod, add-mod_right}
use Rattle.std.proofs.Math.Bridge.{le_prop}
use Rattle.scalar.specs.Ops.{Ring}
use Rattle.scalar.specs.Modular.{Below, modulo, modular}

pub below_same : {m : ℕ} (a b : Below m) → a.number ≡ b.number → a ≡ b
below_same {m} a b e = λ i. record { number = e i; less = is_prop→PathP (λ j. e j < m) (λ j. le_prop) a.less b.less i }

module _ (m : ℕ) where
  pub mul_mod_mod : (a b : ℕ) → (a * (b % m)) % m ≡ (a * b) % m
  mul_mod_mod a b =
      let whole : m * (a * (b / m)) + a * (b % m) ≡ a * b =
      ap (λ n. n + a * (b % m)) (sym (mul_assoc m a (b / m)) ∙ ap (λ n. n * (b / m)) (mul_comm m a) ∙ mul_assoc a m (b / m))
      ∙ sym (mul-add a (m * (b / m)) (b % m)) ∙ ap (λ n. a * n) (div-add-mod b m) in
      sym (mul-add-mod_self_left m (a * (b / m)) (a * (b % m))) ∙ ap (λ n. n % m) whole

  pub mod_mul_mod : (a b : ℕ) → (a % m * b) % m ≡ (a * b) % m
  mod_mul_mod a b = ap (λ n. n % m) (mul_comm (a % m) b) ∙ mul_mod_mod b a ∙ ap (λ n. n % m) (mul_comm b a)

module _ (m : ℕ) (above : 0 < m) where
  -- an operation on stored numbers means the operation on their meanings
  pub modulo_mod : (n : ℕ) → modulo m above (n % m) ≡ modulo m above n
  modulo_mod n = below_same _ _ (mod-mod n m)

  pub modulo_plus : (a b : ℕ) → modulo m above (a + b) ≡ (modular m above).plus (modulo m above a) (modulo m above b)
  modulo_plus a b = below_same _ _ (add-mod a b m)

  pub modulo_times : (a b : ℕ) → modulo m above (a * b) ≡ (modular m above).times (modulo m above a) (modulo m above b)
  modulo_times a b = below_same _ _ (sym (mod_mul_mod m a (b % m) ∙ mul_mod_mod m a b))

  -- r is the negation of a if their sum is 0 modulo m
  pub modulo_minus : (r a : ℕ) → (r + a) % m ≡ 0 → modulo m above r ≡ (modular m above).minus (modulo m above a)
  modulo_minus r a e =
      let k = a % m in
      let less : k < m = mod-lt a above in
      let back : k + (m - k) ≡ m = omega arith in
      let gone : (r + k) % m ≡ 0 = add-mod-mod r a m ∙ e in
      below_same _ _
      (sym (mod_self_add r) ∙ ap (λ n. (r + n) % m) (sym back) ∙ ap (λ n. n % m) (sym (add_assoc r k (m - k)))
      ∙ sym (mod-add-mod (r + k) m (m - k)) ∙ ap (λ n. (n + (m - k)) % m) gone ∙ ap (λ n. n % m) (zero-add (m - k)))
    where
      mod_self_add : (n : ℕ) → (n + m) % m ≡ n % m
      mod_self_add n = add-mod_right n m

  kept : (a : Below m) → a.number % m ≡ a.number
  kept a = mod-eq_of_lt a.less

  pub modular_ring : Ring (modular m above)
  modular_ring = record {
    plus_assoc = λ a b c. below_same _ _
        (mod-add-mod (a.number + b.number) m c.number ∙ ap (λ n. n % m) (add_assoc a.number b.number c.number)
        ∙ sym (add-mod-mod a.number (b.number + c.number) m));
    plus_comm = λ a b. below_same _ _ (ap (λ n. n % m) (add_comm a.number b.number));
    plus_zero = λ a. below_same _ _ (add-mod-mod a.number 0 m ∙ ap (λ n. n % m) (add-zero a.number) ∙ kept a);
    plus_minus = λ a.
        let less = a.less in
        let back : a.number + (m - a.number) ≡ m = omega arith in
        below_same _ _ (add-mod-mod a.number (m - a.number) m ∙ ap (λ n. n % m) back ∙ mod_self m ∙ sym (zero-mod m));
    times_assoc = λ a b c. below_same _ _
        (mod_mul_mod m (a.number * b.number) c.number ∙ ap (λ n. n % m) (mul_assoc a.number b.number c.number)
        ∙ sym (mul_mod_mod m a.number (b.number * c.number)));
    times_comm = λ a b. below_same _ _ (ap (λ n. n % m) (mul_comm a.number b.number));
    times_one = λ a. below_same _ _ (mul_mod_mod m a.number 1 ∙ ap (λ n. n % m) (mul-one a.number) ∙ kept a);
    times_plus = λ a b c. below_same _ _
        (mul_mod_mod m a.number (b.number + c.number) ∙ ap (λ n. n % m) (mul-add a.number b.number c.number)
        ∙ add-mod (a.number * b.number) (a.number * c.number) m);
    zero_only = λ a e. below_same _ _ (eqb-true a.number 0 e ∙ sym (zero-mod m));
  }

pub below_set : (m : ℕ) → IsSet (Below m)
below_set m = hedberg same?
  where
    decided : (a b : Below m) → Dec (a.number ≡ b.number) → Dec (a ≡ b)
    decided a b (yes e) = yes (below_same a b e)
    decided a b (no f) = no (λ q. f (ap (λ (x : Below m). x.number) q))

    same? : Discrete (Below m)
    same? a b = decided a b (ℕ_discrete a.number b.number)

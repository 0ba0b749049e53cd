-- The operations of a scalar on its meanings, and the laws of a commutative ring over them. Assumes nothing.
use Rattle.std.specs.Prelude.{◌≡◌, Bool, true}

pub record Ops (M : Type 0) : Type 0 where
  pub zero : M
  pub one : M
  pub plus : M → M → M
  pub times : M → M → M
  pub minus : M → M
  pub is_zero : M → Bool

-- what an exact scalar's operations keep; `zero_only`: nothing but zero passes the test for zero
pub record Ring {M : Type 0} (o : Ops M) : Type 0 where
  pub plus_assoc : (a b c : M) → o.plus (o.plus a b) c ≡ o.plus a (o.plus b c)
  pub plus_comm : (a b : M) → o.plus a b ≡ o.plus b a
  pub plus_zero : (a : M) → o.plus a o.zero ≡ a
  pub plus_minus : (a : M) → o.plus a (o.minus a) ≡ o.zero
  pub times_assoc : (a b c : M) → o.times (o.times a b) c ≡ o.times a (o.times b c)
  pub times_comm : (a b : M) → o.times a b ≡ o.times b a
  pub times_one : (a : M) → o.times a o.one ≡ a
  pub times_plus : (a b c : M) → o.times a (o.plus b c) ≡ o.plus (o.times a b) (o.times a c)
  pub zero_only : (a : M) → o.is_zero a ≡ true → a ≡ o.zero

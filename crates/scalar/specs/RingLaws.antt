-- What a commutative ring's laws give. Assumes nothing.
use Rattle.std.specs.Prelude.{◌≡◌}
use Rattle.std.proofs.Common.{sym, ap, ap₂, ◌∙◌}
use Rattle.scalar.specs.Ops.{Ops, Ring}

module _ {M : Type 0} {o : Ops M} (r : Ring o) where
  pub zero_plus : (a : M) → o.plus o.zero a ≡ a
  zero_plus a = r.plus_comm o.zero a ∙ r.plus_zero a

  pub plus_times : (a b c : M) → o.times (o.plus a b) c ≡ o.plus (o.times a c) (o.times b c)
  plus_times a b c = r.times_comm (o.plus a b) c ∙ r.times_plus c a b ∙ ap₂ o.plus (r.times_comm c a) (r.times_comm c b)

  -- (a + b) + (c + d) = (a + c) + (b + d)
  pub plus_swap : (a b c d : M) → o.plus (o.plus a b) (o.plus c d) ≡ o.plus (o.plus a c) (o.plus b d)
  plus_swap a b c d =
      r.plus_assoc a b (o.plus c d)
      ∙ ap (o.plus a) (sym (r.plus_assoc b c d) ∙ ap (λ n. o.plus n d) (r.plus_comm b c) ∙ r.plus_assoc c b d)
      ∙ sym (r.plus_assoc a c (o.plus b d))

  pub plus_cancel : (a b : M) → o.plus a b ≡ a → b ≡ o.zero
  plus_cancel a b e =
      sym (zero_plus b)
      ∙ ap (λ n. o.plus n b) (sym (r.plus_minus a) ∙ r.plus_comm a (o.minus a))
      ∙ r.plus_assoc (o.minus a) a b ∙ ap (o.plus (o.minus a)) e
      ∙ r.plus_comm (o.minus a) a ∙ r.plus_minus a

  pub times_zero : (a : M) → o.times a o.zero ≡ o.zero
  times_zero a =
      plus_cancel (o.times a o.zero) (o.times a o.zero)
      (sym (r.times_plus a o.zero o.zero) ∙ ap (o.times a) (r.plus_zero o.zero))

  pub zero_times : (a : M) → o.times o.zero a ≡ o.zero
  zero_times a = r.times_comm o.zero a ∙ times_zero a

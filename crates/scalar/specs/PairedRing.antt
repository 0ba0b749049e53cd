-- Pairs over a commutative ring are a commutative ring. Assumes nothing.
use Rattle.std.specs.Prelude.{◌≡◌, Bool, true, false, ◌&&◌, refl}
use Rattle.std.proofs.Common.{sym, ap, ap₂, ◌∙◌}
use Rattle.scalar.specs.Ops.{Ops, Ring}
use Rattle.scalar.specs.Pairs.{paired}
use Rattle.scalar.specs.RingLaws.{zero_plus, plus_times, plus_swap, times_zero}

first : (a b : Bool) → (a && b) ≡ true → a ≡ true
first true b e = refl
first false b e = e

second : (a b : Bool) → (a && b) ≡ true → b ≡ true
second true b e = e
second false true e = refl
second false false e = e

pub paired_set : {M : Type 0} → IsSet M → IsSet (M × M)
paired_set s x y p q = λ k i. (s x.0 y.0 (λ j. (p j).0) (λ j. (q j).0) k i, s x.1 y.1 (λ j. (p j).1) (λ j. (q j).1) k i)

module _ {M : Type 0} {o : Ops M} (r : Ring o) where
  slope_assoc : (a s b t c u : M) → o.plus (o.times (o.times a b) u) (o.times (o.plus (o.times a t) (o.times s b)) c)
      ≡ o.plus (o.times a (o.plus (o.times b u) (o.times t c))) (o.times s (o.times b c))
  slope_assoc a s b t c u =
      ap₂ o.plus (r.times_assoc a b u) (plus_times r (o.times a t) (o.times s b) c ∙ ap₂ o.plus (r.times_assoc a t c) (r.times_assoc s b c))
      ∙ sym (r.plus_assoc (o.times a (o.times b u)) (o.times a (o.times t c)) (o.times s (o.times b c)))
      ∙ ap (λ n. o.plus n (o.times s (o.times b c))) (sym (r.times_plus a (o.times b u) (o.times t c)))

  pub paired_ring : Ring (paired o)
  paired_ring = record {
    plus_assoc = λ a b c i. (r.plus_assoc a.0 b.0 c.0 i, r.plus_assoc a.1 b.1 c.1 i);
    plus_comm = λ a b i. (r.plus_comm a.0 b.0 i, r.plus_comm a.1 b.1 i);
    plus_zero = λ a i. (r.plus_zero a.0 i, r.plus_zero a.1 i);
    plus_minus = λ a i. (r.plus_minus a.0 i, r.plus_minus a.1 i);
    times_assoc = λ a b c i. (r.times_assoc a.0 b.0 c.0 i, slope_assoc a.0 a.1 b.0 b.1 c.0 c.1 i);
    times_comm = λ a b.
        let slopes : o.plus (o.times a.0 b.1) (o.times a.1 b.0) ≡ o.plus (o.times b.0 a.1) (o.times b.1 a.0) =
        r.plus_comm (o.times a.0 b.1) (o.times a.1 b.0) ∙ ap₂ o.plus (r.times_comm a.1 b.0) (r.times_comm a.0 b.1) in
        λ i. (r.times_comm a.0 b.0 i, slopes i);
    times_one = λ a.
        let slopes : o.plus (o.times a.0 o.zero) (o.times a.1 o.one) ≡ a.1 =
        ap₂ o.plus (times_zero r a.0) (r.times_one a.1) ∙ zero_plus r a.1 in
        λ i. (r.times_one a.0 i, slopes i);
    times_plus = λ a b c.
        let slopes : o.plus (o.times a.0 (o.plus b.1 c.1)) (o.times a.1 (o.plus b.0 c.0))
        ≡ o.plus (o.plus (o.times a.0 b.1) (o.times a.1 b.0)) (o.plus (o.times a.0 c.1) (o.times a.1 c.0)) =
        ap₂ o.plus (r.times_plus a.0 b.1 c.1) (r.times_plus a.1 b.0 c.0) ∙ plus_swap r _ _ _ _ in
        λ i. (r.times_plus a.0 b.0 c.0 i, slopes i);
    zero_only = λ a e.
        let value = r.zero_only a.0 (first (o.is_zero a.0) (o.is_zero a.1) e) in
        let slope = r.zero_only a.1 (second (o.is_zero a.0) (o.is_zero a.1) e) in
        λ i. (value i, slope i);
  }

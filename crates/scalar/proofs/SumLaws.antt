-- Sums term by term. Assumes nothing.
use Rattle.std.proofs.Common.{◌≡◌, ℕ, zero, suc, ◌+◌, ◌<◌, refl, ap, ap₂, add-one, arith}
use Rattle.scalar.specs.Ops.{Ops}
use Rattle.scalar.specs.Sums.{sum_from}

module _ {M : Type 0} (o : Ops M) (a : M) where
  pub sum_next : (f : ℕ → M) (n : ℕ) → sum_from o a f (n + 1) ≡ o.plus (sum_from o a f n) (f n)
  sum_next f n = ap (sum_from o a f) (add-one n)

  pub sum_same : (f g : ℕ → M) (n : ℕ) → ((i : ℕ) → i < n → f i ≡ g i) → sum_from o a f n ≡ sum_from o a g n
  sum_same f g zero e = refl
  sum_same f g (suc n) e = ap₂ o.plus (sum_same f g n (λ i h. e i (omega arith))) (e n (omega arith))

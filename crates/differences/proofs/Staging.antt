-- A row of staged columns times entries, summed column after column. Assumes nothing.
use Rattle.std.proofs.Common.{◌≡◌, ℕ, suc, ◌+◌, ◌*◌, List, length, ap, ◌∙◌, ap₂, arith}
use Rattle.scalar.specs.Ops.{Ops}
use Rattle.scalar.specs.Sums.{at, sum}
use Rattle.scalar.proofs.Stored.{at_is}
use Rattle.product.specs.Results.{Run, run_row}

module _ {S M : Type 0} (means : S → M) (o : Ops M) where
  -- row i of the first n columns of `height` rows times the entries e, summed from zero
  abbrev pub product_to : List S → ℕ → (ℕ → M) → ℕ → ℕ → M
  product_to staged height e i n = sum o (λ l. o.times (run_row means o staged height i l) (e l)) n

  pub one_more : (staged cur cur' : List S) (height l : ℕ) (e : ℕ → M) (v : M) → length cur ≡ height → length cur' ≡ length cur → v ≡ e l
      → Run means (λ i. product_to staged height e i l) cur
      → Run means (λ i. o.plus (at means o cur i) (o.times (at means o staged (l * length cur + i)) v)) cur'
      → Run means (λ i. product_to staged height e i (l + 1)) cur'
  one_more staged cur cur' height l e v same same' entry so_far wrote i d h =
      let next : suc l ≡ l + 1 = omega arith in
      wrote i d h
      ∙ ap₂ o.plus (at_is means o cur i _ (omega arith) (λ z. so_far i z (omega arith)))
      (ap₂ (λ r z. o.times (run_row means o staged r i l) z) same entry)
      ∙ ap (sum o (λ q. o.times (run_row means o staged height i q) (e q))) next

-- One row more of a lane, and lanes that say the same. Assumes nothing.
use Rattle.std.proofs.Common.{◌≡◌, ℕ, zero, suc, ◌+◌, ◌<◌, Bool, true, false, cond, ◌||◌, ℤ, pos, sym, refl, ap, ◌∙◌, ap₂, add-one, arith}
use Rattle.scalar.specs.Ops.{Ops}
use Rattle.scalar.specs.Orders.{Order}
use Rattle.norm.specs.Roots.{fraction, replaces, found, best, row, Says}

-- only the first n rows count
module _ {M : Type 0} (o : Ops M) (order : Order M) where
  pub found_same : (g g' : ℕ → M) (n : ℕ) → ((i : ℕ) → i < n → g i ≡ g' i) → found o order g n ≡ found o order g' n
  found_same g g' zero e = refl
  found_same g g' (suc n) e = ap₂ ◌||◌ (found_same g g' n (λ i h. e i (omega arith))) (ap o.is_zero (e n (omega arith)))

  pub best_same : (g0 g0' g1 g1' : ℕ → M) (n : ℕ) → ((i : ℕ) → i < n → g0 i ≡ g0' i) → ((i : ℕ) → i < n → g1 i ≡ g1' i) → best o order g0 g1 n ≡ best o order g0' g1' n
  best_same g0 g0' g1 g1' zero p q = refl
  best_same g0 g0' g1 g1' (suc n) p q =
      let b = best_same g0 g0' g1 g1' n (λ i h. p i (omega arith)) (λ i h. q i (omega arith)) in
      let x = p n (omega arith) in
      let y = q n (omega arith) in
      λ k. cond (replaces o order (b k) (x k) (y k)) (fraction o order (x k) (y k)) (b k)

  pub row_same : (g0 g0' g1 g1' : ℕ → M) (n : ℕ) → ((i : ℕ) → i < n → g0 i ≡ g0' i) → ((i : ℕ) → i < n → g1 i ≡ g1' i) → row o order g0 g1 n ≡ row o order g0' g1' n
  row_same g0 g0' g1 g1' zero p q = refl
  row_same g0 g0' g1 g1' (suc n) p q =
      let b = best_same g0 g0' g1 g1' n (λ i h. p i (omega arith)) (λ i h. q i (omega arith)) in
      let r = row_same g0 g0' g1 g1' n (λ i h. p i (omega arith)) (λ i h. q i (omega arith)) in
      let x = p n (omega arith) in
      let y = q n (omega arith) in
      λ k. cond (replaces o order (b k) (x k) (y k)) (pos n) (r k)

module _ {S M : Type 0} (means : S → M) (o : Ops M) (order : Order M) (g0 g1 : ℕ → M) (n : ℕ) (zeros : Bool) (part : S) (place : ℤ) (so : Says means o order g0 g1 n zeros part place) where
  some : (z : Bool) → z ≡ o.is_zero (g1 n) → (zeros || z) ≡ found o order g1 (n + 1)
  some z e = ap₂ ◌||◌ so.found_is e ∙ sym (ap (found o order g1) (add-one n))

  test : (t : Bool) → replaces o order (means part) (g0 n) (g1 n) ≡ t → replaces o order (best o order g0 g1 n) (g0 n) (g1 n) ≡ t
  test t e = ap (λ z. replaces o order z (g0 n) (g1 n)) (sym so.part_is) ∙ e

  pub says_better : (z : Bool) (part' : S) (place' : ℤ) → z ≡ o.is_zero (g1 n) → replaces o order (means part) (g0 n) (g1 n) ≡ true → means part' ≡ fraction o order (g0 n) (g1 n) → place' ≡ pos n
      → Says means o order g0 g1 (n + 1) (zeros || z) part' place'
  says_better z part' place' e t p q = record {
    found_is = some z e;
    part_is = p ∙ sym (ap (best o order g0 g1) (add-one n) ∙ ap (λ b. cond b (fraction o order (g0 n) (g1 n)) (best o order g0 g1 n)) (test true t));
    row_is = q ∙ sym (ap (row o order g0 g1) (add-one n) ∙ ap (λ b. cond b (pos n) (row o order g0 g1 n)) (test true t));
  }

  pub says_same : (z : Bool) (part' : S) (place' : ℤ) → z ≡ o.is_zero (g1 n) → replaces o order (means part) (g0 n) (g1 n) ≡ false → part' ≡ part → place' ≡ place
      → Says means o order g0 g1 (n + 1) (zeros || z) part' place'
  says_same z part' place' e t p q = record {
    found_is = some z e;
    part_is = ap means p ∙ so.part_is ∙ sym (ap (best o order g0 g1) (add-one n) ∙ ap (λ b. cond b (fraction o order (g0 n) (g1 n)) (best o order g0 g1 n)) (test false t));
    row_is = q ∙ so.row_is ∙ sym (ap (row o order g0 g1) (add-one n) ∙ ap (λ b. cond b (pos n) (row o order g0 g1 n)) (test false t));
  }

-- the same rows and row numbers under other names
pub says_at : {S M : Type 0} (means : S → M) (o : Ops M) (order : Order M) (g0 g0' g1 g1' : ℕ → M) (m n : ℕ) (zeros : Bool) (part : S) (place place' : ℤ)
    → m ≡ n → ((i : ℕ) → i < n → g0 i ≡ g0' i) → ((i : ℕ) → i < n → g1 i ≡ g1' i) → place ≡ place' → Says means o order g0 g1 m zeros part place → Says means o order g0' g1' n zeros part place'
says_at means o order g0 g0' g1 g1' m n zeros part place place' e p q f so = record {
  found_is = so.found_is ∙ ap (found o order g1) e ∙ found_same o order g1 g1' n q;
  part_is = so.part_is ∙ ap (best o order g0 g1) e ∙ best_same o order g0 g0' g1 g1' n p q;
  row_is = sym f ∙ so.row_is ∙ ap (row o order g0 g1) e ∙ row_same o order g0 g0' g1 g1' n p q;
}

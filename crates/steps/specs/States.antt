-- The state of one lane, a table and two vectors, and its pairing with weights of the same form. Assumes nothing.
use Rattle.std.specs.Prelude.{◌≡◌, ℕ, zero, suc, ◌<◌}
use Rattle.scalar.specs.Ops.{Ops}
use Rattle.scalar.specs.Sums.{sum_from}

-- the table's entry in column j and row i, and row i of either vector
pub record Lane (M : Type 0) : Type 0 where
  pub table : ℕ → ℕ → M
  pub first : ℕ → M
  pub second : ℕ → M

module _ {M : Type 0} (o : Ops M) where
  -- a, and then the terms of c columns of r rows, column after column
  abbrev pub columns_from : ℕ → M → (ℕ → ℕ → M) → ℕ → M
  columns_from r a f zero = a
  columns_from r a f (suc c) = sum_from o (columns_from r a f c) (f c) r

  -- the products of each entry of s with the weight at its place, summed from zero:
  -- the table column by column, then the first vector, then the second
  abbrev pub pairing : ℕ → ℕ → Lane M → Lane M → M
  pairing r c s w =
      sum_from o
      (sum_from o (columns_from r o.zero (λ j i. o.times (s.table j i) (w.table j i)) c) (λ i. o.times (s.first i) (w.first i)) r)
      (λ i. o.times (s.second i) (w.second i))
      r

-- R holds at each place of r rows and c columns
pub record Related {M N : Type 0} (R : M → N → Type 0) (r c : ℕ) (s : Lane M) (t : Lane N) : Type 0 where
  pub table : (j i : ℕ) → j < c → i < r → R (s.table j i) (t.table j i)
  pub first : (i : ℕ) → i < r → R (s.first i) (t.first i)
  pub second : (i : ℕ) → i < r → R (s.second i) (t.second i)

-- the same meaning at each place
abbrev pub Alike : {M : Type 0} → ℕ → ℕ → Lane M → Lane M → Type 0
Alike {M = M} r c s t = Related (λ (a b : M). a ≡ b) r c s t

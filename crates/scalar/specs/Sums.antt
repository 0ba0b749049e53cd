-- What lies in a memory of scalars, and sums from the first term to the last. Assumes nothing.
use Rattle.std.specs.Prelude.{ℕ, zero, suc, List, map, slice_index_or}
use Rattle.scalar.specs.Ops.{Ops}

-- the meaning stored at place k, zero outside the memory
abbrev pub at : {S M : Type 0} → (S → M) → Ops M → List S → ℕ → M
at means o mem k = slice_index_or (map means mem) k o.zero

module _ {M : Type 0} (o : Ops M) where
  -- a, and then the first n terms of f, added in their order
  abbrev pub sum_from : M → (ℕ → M) → ℕ → M
  sum_from a f zero = a
  sum_from a f (suc n) = o.plus (sum_from a f n) (f n)

  abbrev pub sum : (ℕ → M) → ℕ → M
  sum f n = sum_from o.zero f n

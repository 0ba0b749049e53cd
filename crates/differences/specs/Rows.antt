-- What a call makes of one row of a lane, over any scalar: x l is the row's entry in column l. Assumes nothing.
use Rattle.std.specs.Prelude.{ℕ, zero, suc, ◌+◌, ◌-◌, ◌*◌, cond, ◌&&◌, List, ◌==◌, nat_le, nat_lt, slice_index_or}
use Rattle.scalar.specs.Ops.{Ops}
use Rattle.scalar.specs.Sums.{sum}

module _ {M : Type 0} (o : Ops M) where
  -- the update of order k by d, t columns left of column k + 2: that column becomes d less column k + 1,
  -- and from there to the left each column gains its right neighbour
  abbrev pub scanned : (ℕ → M) → M → ℕ → ℕ → M
  scanned x d k zero = o.plus d (o.minus (x (k + 1)))
  scanned x d k (suc t) = o.plus (x (k + 1 - t)) (scanned x d k t)

  -- column j after the update
  abbrev pub updated : (ℕ → M) → M → ℕ → ℕ → M
  updated x d k j = cond (nat_le j (k + 2)) (scanned x d k (k + 2 - j)) (x j)

  -- the matrix t of the update's transpose: rows up to k have ones up to the diagonal,
  -- row k + 1 has −1 in column k + 2, and all else is zero
  abbrev pub transposed : ℕ → ℕ → ℕ → M
  transposed k j l =
      cond (nat_le j k) (cond (nat_le l j) o.one o.zero) (cond (j == k + 1 && l == k + 2) (o.minus o.one) o.zero)

  -- column j of the first k columns times a matrix: the sum over l, from zero, of column l times m j l
  abbrev pub multiplied : (ℕ → M) → ℕ → (ℕ → ℕ → M) → ℕ → M
  multiplied x k m j = cond (nat_lt j k) (sum o (λ l. o.times (x l) (m j l)) k) (x j)

  -- the number in row j and column l of a matrix of k columns, kept row after row
  abbrev pub number : ℕ → List M → ℕ → ℕ → M
  number k ms j l = slice_index_or ms (j * k + l) o.zero

-- A small square matrix over numbers beside it, or a constant one: its entries. Assumes nothing.
use Rattle.std.specs.Prelude.{◌≡◌, ℕ, zero, suc, ◌+◌, ◌*◌, ◌≤◌, Bool, true, false, cond, ◌&&◌, List, [], ℤ, pos, negsuc, ◌==◌, nat_le, slice_index_or}
use Rattle.scalar.specs.Ops.{Ops}
use Rattle.differences.specs.Rows.{number, transposed}
use Rattle.differences.specs.declared.matrix.Entries.{Entries}
use Rattle.differences.specs.declared.matrix.Entries.TheVariants.{ByRows, ByColumns, OfTranspose}
use Rattle.differences.specs.declared.matrix.Matrix.{Matrix}

-- the matrix t of the update's transpose of order k, in whole numbers
abbrev pub sign : ℕ → ℕ → ℕ → ℤ
sign k j l = cond (nat_le j k) (cond (nat_le l j) (pos 1) (pos 0)) (cond (j == k + 1 && l == k + 2) (negsuc 0) (pos 0))

-- the test passes at each number below n
abbrev pub each : ℕ → (ℕ → Bool) → Bool
each zero f = true
each (suc n) f = f n && each n f

abbrev pub same : ℤ → ℤ → Bool
same (pos m) (pos n) = m == n
same (pos m) (negsuc n) = false
same (negsuc m) (pos n) = false
same (negsuc m) (negsuc n) = m == n

-- the table has these entries for the orders below 6
abbrev pub ruled : List (List (List ℤ)) → Bool
ruled table = each 6 (λ k. each 8 (λ j. each 8 (λ l. same (slice_index_or (slice_index_or (slice_index_or table k []) j []) l (pos 0)) (sign k j l))))

-- the scalar of 1, −1 or 0
abbrev pub signed : {M : Type 0} → Ops M → ℤ → M
signed o (pos n) = cond (n == 1) o.one o.zero
signed o (negsuc n) = cond (n == 0) (o.minus o.one) o.zero

-- the entry in row j and column l of a k by k matrix
abbrev pub entries : {M : Type 0} → Ops M → Entries → ℕ → List M → ℕ → ℕ → M
entries o ByRows k ms = number o k ms
entries o ByColumns k ms = λ j l. number o k ms l j
entries o (OfTranspose order) k ms = transposed o order

abbrev pub entry_of : {M : Type 0} → Ops M → Matrix → List M → ℕ → ℕ → M
entry_of o m ms = entries o m.entries m.size ms

-- k by k entries
abbrev pub sized : ℕ → Entries → Matrix
sized k entries = record { size = k; entries = entries }

-- there are `count` numbers, as many as the matrix has, or the table has its order
abbrev pub Enough : Entries → ℕ → ℕ → Type 0
Enough ByRows k count = count ≡ k * k
Enough ByColumns k count = count ≡ k * k
Enough (OfTranspose order) k count = order ≤ 5

-- the matrix reads its numbers, and needs nothing else
abbrev pub Numbered : Matrix → Type 0
Numbered m = (count : ℕ) → count ≡ m.size * m.size → Enough m.entries m.size count

-- a matrix of at most 8 rows, with its entries
pub record Small (m : Matrix) (count : ℕ) : Type 0 where
  pub few : m.size ≤ 8
  pub enough : Enough m.entries m.size count

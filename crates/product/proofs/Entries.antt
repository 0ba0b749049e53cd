-- What an entry means that is read at the front of a memory or past it. Assumes nothing.
use Rattle.std.proofs.Common.{◌≡◌, ℕ, ◌+◌, ◌-◌, ◌<◌, ◌≤◌, List, length, take, drop, arith}
use Rattle.std.proofs.lemmas.List.{length-take-le, length-drop, get_or-take, get_or-drop}
use Rattle.scalar.specs.Ops.{Ops}
use Rattle.scalar.specs.Sums.{at}
use Rattle.scalar.proofs.Stored.{at_same}
use Rattle.shape.specs.Shapes.{cell, In, Fits}
use Rattle.shape.specs.Changes.{Changed}
use Rattle.shape.specs.declared.operand.TableShape.{TableShape}
use Rattle.shape.proofs.Blocks.{cell_fits}

-- the k entries from place a on, as they are lent
abbrev pub part : {S : Type 0} → ℕ → ℕ → List S → List S
part a k xs = take ((a + k) - a) (drop a xs)

module _ {S M : Type 0} (means : S → M) (o : Ops M) where
  -- an entry of the first n
  pub at_front : (n i : ℕ) (xs : List S) → n ≤ length xs → i < n → at means o (take n xs) i ≡ at means o xs i
  at_front n i xs fits below =
      let l : length (take n xs) ≡ n = length-take-le n xs fits in
      at_same means o (take n xs) xs i i (omega arith) (omega arith) (λ d. get_or-take n xs i d below)

  -- an entry after the first n
  pub at_after : (n i : ℕ) (xs : List S) → n + i < length xs → at means o (drop n xs) i ≡ at means o xs (n + i)
  at_after n i xs below = at_same means o (drop n xs) xs i (n + i) (let l = length-drop n xs in omega arith) below (λ d. get_or-drop n xs i d)

  -- a cell that was not written means what it meant
  pub cell_kept : (t : TableShape) (D : ℕ → ℕ → ℕ → Type 0) (P : ℕ → ℕ → ℕ → S → Type 0) (old cur : List S) → Fits t (length old) → length cur ≡ length old → Changed t D P old cur
      → (b j i : ℕ) → In t b j i → (D b j i → ⊥) → at means o cur (cell t b j i) ≡ at means o old (cell t b j i)
  cell_kept t D P old cur fits len c b j i w out =
      let f = cell_fits t (length old) b j i fits w in
      at_same means o cur old (cell t b j i) (cell t b j i) (omega arith) f (λ d. c.kept b j i d w out)

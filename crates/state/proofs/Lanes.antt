-- From what a call left in a memory to what it made of a lane. Assumes nothing.
use mathlib.Core.Path.{◌≡◌, sym, ap₂, ◌∙◌}
use mathlib.Core.List.{List, [], ◌∷◌}
use Prim.Native.Nat.{ℕ, ◌<◌}
use native.Mathlib.Omega.{arith}
use lib.ListN.{length, get_or}
use Rattle.scalar.specs.Ops.{Ops}
use Rattle.scalar.specs.Sums.{at}
use Rattle.scalar.proofs.Stored.{at_get, at_is}
use Rattle.shape.specs.Shapes.{cell, In, Fits, Lawful}
use Rattle.shape.specs.Changes.{Changed, meant}
use Rattle.shape.specs.declared.operand.TableShape.{TableShape}
use Rattle.shape.proofs.Blocks.{cell_fits}
use Rattle.state.specs.Memory.{vector_of}

module _ {S M : Type 0} (means : S → M) (o : Ops M) (t : TableShape) (old cur : List S) (fits : Fits t (length old)) (same : length cur ≡ length old) where
  -- a cell that was written means what was said of it
  pub cell_written : (D : ℕ → ℕ → ℕ → Type 0) (new : ℕ → ℕ → ℕ → M) (b j i : ℕ) → Changed t D (meant means new) old cur → In t b j i → D b j i → at means o cur (cell t b j i) ≡ new b j i
  cell_written D new b j i c w h =
      let f = cell_fits t (length old) b j i fits w in
      at_is means o cur (cell t b j i) (new b j i) (omega arith) (λ d. c.written b j i d w h)

  -- a cell whose stored value was made of the stored value at place k of xs and of its own old one
  pub cell_made : (F : M → M → M) (xs : List S) (k b j i : ℕ) → In t b j i → k < length xs
      → ((d : S) → means (get_or cur (cell t b j i) d) ≡ F (means (get_or xs k d)) (means (get_or old (cell t b j i) d)))
      → at means o cur (cell t b j i) ≡ F (at means o xs k) (at means o old (cell t b j i))
  cell_made F [] k b j i w h e = absurd (omega arith)
  cell_made F (x ∷ xs) k b j i w h e =
      let f = cell_fits t (length old) b j i fits w in
      at_get means o cur (cell t b j i) x (omega arith) ∙ e x
      ∙ ap₂ F (sym (at_get means o (x ∷ xs) k x h)) (sym (at_get means o old (cell t b j i) x f))

-- a vector that fits is lawful
pub vector_in : (t : TableShape) (len : ℕ) → Fits (vector_of t).of len → Lawful (vector_of t) len
vector_in t len f = record { fits = f; within = omega arith }

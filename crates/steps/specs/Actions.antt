-- What each kind of step makes of a lane, forward and back. Assumes nothing.
use Rattle.std.specs.Prelude.{ℕ, ◌+◌, ◌-◌, List, slice_index, slice_index_or}
use Rattle.scalar.specs.Ops.{Ops}
use Rattle.vector.specs.Rows.{blend}
use Rattle.index.specs.Indices.{settled}
use Rattle.product.specs.Rows.{summed, spread}
use Rattle.differences.specs.Rows.{updated, transposed, multiplied, number}
use Rattle.index.specs.Transposes.{put, scattered_back, gathered_back}
use Rattle.steps.specs.States.{Lane}
use Rattle.steps.specs.Steps.{Step, given}
use Rattle.steps.specs.declared.kind.Kind.{Kind}
use Rattle.steps.specs.declared.kind.Kind.TheVariants.{Update, Cols, SumCol, AddCol, SetCol, Axpy, Copy, Scale, Gather, Scatter}

module _ {M : Type 0} where
  -- row i of the table
  abbrev pub row : Lane M → ℕ → ℕ → M
  row s i j = s.table j i

  -- a lane with another table, or another vector
  abbrev pub table_by : Lane M → (ℕ → ℕ → M) → Lane M
  table_by s f = record { table = f; first = s.first; second = s.second }

  abbrev pub first_by : Lane M → (ℕ → M) → Lane M
  first_by s f = record { table = s.table; first = f; second = s.second }

  abbrev pub second_by : Lane M → (ℕ → M) → Lane M
  second_by s f = record { table = s.table; first = s.first; second = f }

module _ {M : Type 0} (o : Ops M) where
  infixl 60 ◌⊕◌
  infixl 70 ◌⊗◌
  abbrev ◌⊕◌ : M → M → M
  a ⊕ b = o.plus a b

  abbrev ◌⊗◌ : M → M → M
  a ⊗ b = o.times a b

  -- the l-th number
  abbrev pub nth : List M → ℕ → M
  nth ms l = slice_index_or ms l o.zero

  -- the sum of the first n columns of a row, as its product with ones
  abbrev pub total : (ℕ → M) → ℕ → M
  total e n = summed o e 0 n o.one o.zero (λ l. o.one) o.zero

  -- a kind with the numbers ms and the list ks on a state
  abbrev pub forward_by : Kind → List M → List ℕ → Lane M → Lane M
  forward_by (Update k) ms ks s = table_by s (λ j i. updated o (row s i) (s.first i) k j)
  forward_by (Cols k) ms ks s = table_by s (λ j i. multiplied o (row s i) k (number o k ms) j)
  forward_by (SumCol start end) ms ks s = first_by s (λ i. summed o (row s i) start (end - start) (nth ms 0) (nth ms 1) (λ l. nth ms (2 + l)) (s.first i))
  forward_by (AddCol j) ms ks s = first_by s (λ i. s.first i ⊕ s.table j i)
  forward_by (SetCol j) ms ks s = table_by s (λ l i. put (row s i) j (s.first i) l)
  forward_by Axpy ms ks s = first_by s (λ i. blend o (nth ms 0) (s.second i) (nth ms 1) (s.first i))
  forward_by Copy ms ks s = second_by s s.first
  forward_by Scale ms ks s = first_by s (λ i. s.first i ⊗ nth ms 0)
  forward_by Gather ms ks s = first_by s (λ i. s.second (slice_index ks i))
  forward_by Scatter ms ks s = second_by s (λ k. settled ks 0 k s.first (s.second k))

  -- and on weights: the transpose
  abbrev pub back_by : Kind → List M → List ℕ → Lane M → Lane M
  back_by (Update k) ms ks w = first_by (table_by w (λ j i. multiplied o (row w i) (k + 3) (transposed o k) j)) (λ i. w.first i ⊕ total (row w i) (k + 3))
  back_by (Cols k) ms ks w = table_by w (λ j i. multiplied o (row w i) k (λ m l. number o k ms l m) j)
  back_by (SumCol start end) ms ks w =
      first_by (table_by w (λ j i. spread o (row w i) start (end - start) (nth ms 0) (λ l. nth ms (2 + l)) (w.first i) j)) (λ i. w.first i ⊗ nth ms 1)
  back_by (AddCol j) ms ks w = table_by w (λ l i. put (row w i) j (w.table j i ⊕ w.first i) l)
  back_by (SetCol j) ms ks w = first_by (table_by w (λ l i. put (row w i) j o.zero l)) (λ i. w.first i ⊕ w.table j i)
  back_by Axpy ms ks w = first_by (second_by w (λ i. w.second i ⊕ nth ms 0 ⊗ w.first i)) (λ i. w.first i ⊗ nth ms 1)
  back_by Copy ms ks w = first_by (second_by w (λ i. o.zero)) (λ i. w.first i ⊕ w.second i)
  back_by Scale ms ks w = first_by w (λ i. w.first i ⊗ nth ms 0)
  back_by Gather ms ks w = first_by (second_by w (gathered_back o ks 0 w.first w.second)) (λ i. o.zero)
  back_by Scatter ms ks w = let pq = scattered_back o ks 0 w.first w.second in first_by (second_by w pq.1) pq.0

  -- ---- a step on a lane

  abbrev pub forward : Step M → Lane M → Lane M
  forward x s = forward_by x.kind (given x.numbers) (given x.list) s

  abbrev pub back : Step M → Lane M → Lane M
  back x w = back_by x.kind (given x.numbers) (given x.list) w

-- Which entries a step may write, and that every other one is left as it is stored. Assumes nothing.
use Rattle.std.specs.Prelude.{◌≡◌, ℕ, ◌+◌, ◌-◌, Bool, true, false, List, slice_index_or}
use Rattle.shape.specs.Shapes.{cell, In}
use Rattle.shape.specs.Changes.{InBand}
use Rattle.shape.specs.declared.operand.TableShape.{TableShape}
use Rattle.steps.specs.declared.kind.Kind.{Kind}
use Rattle.steps.specs.declared.kind.Kind.TheVariants.{Update, Cols, SumCol, AddCol, SetCol, Axpy, Copy, Scale, Gather, Scatter}
use Rattle.state.specs.Memory.{Memory}

-- `count` columns of the table from `from` on, the first vector, the second
pub record Reach : Type 0 where
  pub from : ℕ
  pub count : ℕ
  pub first : Bool
  pub second : Bool

abbrev pub reach : ℕ → ℕ → Bool → Bool → Reach
reach from count first second = record { from = from; count = count; first = first; second = second }

-- of a step forward
abbrev pub reach_forward : Kind → Reach
reach_forward (Update k) = reach 0 (k + 3) false false
reach_forward (Cols k) = reach 0 k false false
reach_forward (SumCol start end) = reach 0 0 true false
reach_forward (AddCol j) = reach 0 0 true false
reach_forward (SetCol j) = reach j 1 false false
reach_forward Axpy = reach 0 0 true false
reach_forward Copy = reach 0 0 false true
reach_forward Scale = reach 0 0 true false
reach_forward Gather = reach 0 0 true false
reach_forward Scatter = reach 0 0 false true

-- of a step back, on the weights
abbrev pub reach_back : Kind → Reach
reach_back (Update k) = reach 0 (k + 3) true false
reach_back (Cols k) = reach 0 k false false
reach_back (SumCol start end) = reach start (end - start) true false
reach_back (AddCol j) = reach j 1 false false
reach_back (SetCol j) = reach j 1 true false
reach_back Axpy = reach 0 0 true true
reach_back Copy = reach 0 0 true true
reach_back Scale = reach 0 0 true false
reach_back Gather = reach 0 0 true true
reach_back Scatter = reach 0 0 true true

-- the columns of the table that are not among `count` from `from` on hold what they held, as stored
abbrev pub ColumnsKept : {S : Type 0} → TableShape → ℕ → ℕ → List S → List S → Type 0
ColumnsKept {S = S} t from count old cur = (b j i : ℕ) (d : S) → In t b j i → (InBand from count b j i → ⊥) → slice_index_or cur (cell t b j i) d ≡ slice_index_or old (cell t b j i) d

-- what is out of reach holds what it held, as stored
pub record KeptBeyond {S : Type 0} (t : TableShape) (x : Reach) (old cur : Memory S) : Type 0 where
  pub table : ColumnsKept t x.from x.count old.table cur.table
  pub first : x.first ≡ false → cur.first ≡ old.first
  pub second : x.second ≡ false → cur.second ≡ old.second

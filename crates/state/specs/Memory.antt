-- The memory of a state or of weights by its lanes, its tests, and the step that a record of a script names. Assumes nothing.
use Rattle.std.specs.Prelude.{◌≡◌, List, map, ℕ, ◌||◌, [], ◌∷◌, length, Bool}
use Rattle.std.specs.Borrow.{Bor, MutBor}
use Rattle.scalar.specs.Ops.{Ops}
use Rattle.scalar.specs.Sums.{at}
use Rattle.shape.specs.Shapes.{cell, whole, no_lanes, too_large, misfit, Fits}
use Rattle.shape.specs.declared.operand.TableShape.{TableShape}
use Rattle.shape.specs.declared.operand.Column.{Column}
use Rattle.steps.specs.States.{Lane}
use Rattle.steps.specs.Steps.{Step, part}
use Rattle.state.specs.declared.parts.Parts.{Parts}
use Rattle.state.specs.declared.record.Script.{Script}
use Rattle.state.specs.declared.record.StepRecord.{StepRecord}

-- what the three slices hold
pub record Memory (S : Type 0) : Type 0 where
  pub table : List S
  pub first : List S
  pub second : List S

abbrev pub memory : {S : Type 0} → List S → List S → List S → Memory S
memory ds us vs = record { table = ds; first = us; second = vs }

-- three lent slices together
abbrev pub lent : {S : Type 0} → MutBor (List S) → MutBor (List S) → MutBor (List S) → Parts (MutBor (List S))
lent t x y = record { table = t; first = x; second = y }

-- what lent memory and shared memory hold
abbrev pub held : {S : Type 0} → Parts (MutBor (List S)) → Memory S
held p = memory p.table.now p.first.now p.second.now

abbrev pub shown : {S : Type 0} → Parts (Bor (List S)) → Memory S
shown p = memory p.table.now p.first.now p.second.now

abbrev pub lengths : {S : Type 0} → Memory S → Parts ℕ
lengths m = record { table = length m.table; first = length m.first; second = length m.second }

-- the same memory is lent
pub record SameLoan {S : Type 0} (p q : Parts (MutBor (List S))) : Type 0 where
  pub table : q.table.ghost_name ≡ p.table.ghost_name
  pub first : q.first.ghost_name ≡ p.first.ghost_name
  pub second : q.second.ghost_name ≡ p.second.ghost_name
  pub sizes : lengths (held q) ≡ lengths (held p)

-- a vector of the table's rows and lanes
abbrev pub vector_of : TableShape → Column
vector_of t = whole t.rows t.lanes

-- lane b of it
abbrev pub lane_of : {S M : Type 0} → (S → M) → Ops M → TableShape → ℕ → Memory S → Lane M
lane_of means o t b m = record {
  table = λ j i. at means o m.table (cell t b j i);
  first = λ i. at means o m.first (cell (vector_of t).of b 0 i);
  second = λ i. at means o m.second (cell (vector_of t).of b 0 i);
}

-- the memories by their lengths, in the order of their tests
abbrev pub parts_tests : TableShape → Parts ℕ → List (ℕ × Bool)
parts_tests t l = (1, no_lanes t) ∷ (2, too_large t) ∷ (3, misfit t l.table || (misfit (vector_of t).of l.first || misfit (vector_of t).of l.second)) ∷ []

-- they hold exactly their shapes, which passing the tests tells
pub record Holds (t : TableShape) (l : Parts ℕ) : Type 0 where
  pub table : Fits t l.table
  pub first : Fits (vector_of t).of l.first
  pub second : Fits (vector_of t).of l.second

-- the step of a record, with the script's numbers and indices
abbrev pub step_of : {S M : Type 0} → (S → M) → StepRecord → Script S → Step M
step_of means x script = record {
  kind = x.kind;
  numbers = part x.numbers_at x.number_count (map means script.numbers.now);
  list = part x.list_at x.list_count script.indices.now;
}

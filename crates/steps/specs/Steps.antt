-- What a step is, and with which number it is refused. Assumes nothing.
use Rattle.std.specs.Prelude.{ℕ, ◌+◌, ◌-◌, ◌*◌, Bool, true, false, cond, not, ◌&&◌, ◌||◌, List, [], ◌∷◌, length, take, drop, Some, None, Option, ◌==◌, nat_le, nat_lt}
use Rattle.shape.specs.Refusals.{first_of}
use Rattle.index.specs.Indices.{outside}
use Rattle.steps.specs.declared.kind.Kind.{Kind}
use Rattle.steps.specs.declared.kind.Kind.TheVariants.{Update, Cols, SumCol, AddCol, SetCol, Axpy, Copy, Scale, Gather, Scatter}

-- a kind of step with the numbers and the list that it was given, None where they pass their array
pub record Step (M : Type 0) : Type 0 where
  pub kind : Kind
  pub numbers : Option (List M)
  pub list : Option (List ℕ)

-- `count` entries of an array from `place` on
abbrev pub part : {A : Type 0} → ℕ → ℕ → List A → Option (List A)
part place count xs = cond (nat_le (place + count) (length xs)) (Some (take count (drop place xs))) None

-- what was given, nothing where it passes its array
abbrev pub given : {A : Type 0} → Option (List A) → List A
given None = []
given (Some xs) = xs

-- ---- refusals

-- how many numbers a kind needs: M; a, b and x; a and b; a
abbrev pub needed : Kind → ℕ
needed (Update k) = 0
needed (Cols k) = k * k
needed (SumCol start end) = 2 + (end - start)
needed (AddCol j) = 0
needed (SetCol j) = 0
needed Axpy = 2
needed Copy = 0
needed Scale = 1
needed Gather = 0
needed Scatter = 0

-- which kinds read a list
abbrev pub listed : Kind → Bool
listed (Update k) = false
listed (Cols k) = false
listed (SumCol start end) = false
listed (AddCol j) = false
listed (SetCol j) = false
listed Axpy = false
listed Copy = false
listed Scale = false
listed Gather = true
listed Scatter = true

-- a column or a range is not within c columns
abbrev pub misplaced : ℕ → Kind → Bool
misplaced c (Update k) = nat_le c (k + 2)
misplaced c (Cols k) = nat_lt c k
misplaced c (SumCol start end) = nat_lt c end || nat_lt end start
misplaced c (AddCol j) = nat_le c j
misplaced c (SetCol j) = nat_le c j
misplaced c Axpy = false
misplaced c Copy = false
misplaced c Scale = false
misplaced c Gather = false
misplaced c Scatter = false

-- an order above 5, or more than 8 columns
abbrev pub too_many : Kind → Bool
too_many (Update k) = nat_lt 5 k
too_many (Cols k) = nat_lt 8 k
too_many (SumCol start end) = nat_lt 8 (end - start)
too_many (AddCol j) = false
too_many (SetCol j) = false
too_many Axpy = false
too_many Copy = false
too_many Scale = false
too_many Gather = false
too_many Scatter = false

-- not n entries, or past the array
abbrev pub miscounted : {A : Type 0} → ℕ → Option (List A) → Bool
miscounted n None = true
miscounted n (Some xs) = not (length xs == n)

-- the tests of a step in their order
abbrev pub step_tests : {M : Type 0} → ℕ → ℕ → Step M → List (ℕ × Bool)
step_tests r c x =
    (4, misplaced c x.kind)
    ∷ (5, too_many x.kind)
    ∷ (6, miscounted (needed x.kind) x.numbers)
    ∷ (9, listed x.kind && miscounted r x.list)
    ∷ (10, listed x.kind && outside r (given x.list)) ∷ []

-- the number with which r rows and c columns refuse a step, 0 where they accept it
abbrev pub fault : {M : Type 0} → ℕ → ℕ → Step M → ℕ
fault r c x = first_of (step_tests r c x)

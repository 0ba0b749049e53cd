-- What a task asks for: the tests of its lengths, and what its steps and its lanes give. Assumes nothing.
use Rattle.std.specs.Prelude.{◌≡◌, ℕ, ◌<◌, ◌≤◌, Bool, not, ◌||◌, ℤ, List, [], ◌∷◌, ◌++◌, length, map, nat_lt, ◌==◌, slice_index}
use Rattle.scalar.specs.Ops.{Ops}
use Rattle.scalar.specs.Sums.{at}
use Rattle.shape.specs.declared.operand.TableShape.{TableShape}
use Rattle.steps.specs.States.{Lane, pairing}
use Rattle.steps.specs.Steps.{Step, fault}
use Rattle.steps.specs.Runs.{run, carry}
use Rattle.state.specs.Memory.{Memory, memory, shown, lengths, lane_of, parts_tests, Holds}
use Rattle.sweep.specs.Sweeps.{steps_of}
use Rattle.exact.specs.declared.task.Task.{Task}

-- the scalars that stand for the entries of a memory of whole numbers
abbrev pub stored_all : {S : Type 0} → (ℤ → S) → Memory ℤ → Memory S
stored_all stored m = memory (map stored m.table) (map stored m.first) (map stored m.second)

-- ---- what a script gives in a lane

module _ {M : Type 0} (o : Ops M) where
  -- the state s at the end of a run paired with the weights w
  abbrev pub paired_after : ℕ → ℕ → List (Step M) → Lane M → Lane M → M
  paired_after r c xs s w = pairing o r c (run o r c xs s) w

  -- the state s at the beginning paired with the weights w carried back
  abbrev pub paired_before : ℕ → ℕ → List (Step M) → Lane M → Lane M → M
  paired_before r c xs s w = pairing o r c s (carry o r c xs w)

  -- the answers of the steps xs on memory, and both pairings of each lane as stored scalars
  pub record Ran {S : Type 0} (means : S → M) (t : TableShape) (xs : List (Step M)) (s w : Memory S) (ks : List ℕ) (ps qs : List S) : Type 0 where
    pub answers : ks ≡ map (fault t.rows t.cols) xs
    pub after : (b : ℕ) → b < t.lanes → at means o ps b ≡ paired_after t.rows t.cols xs (lane_of means o t b s) (lane_of means o t b w)
    pub before : (b : ℕ) → b < t.lanes → at means o qs b ≡ paired_before t.rows t.cols xs (lane_of means o t b s) (lane_of means o t b w)

  -- the same of a task whose whole numbers have values in a ring, each meaning told by its number
  pub record Solved (value : ℤ → M) (number : M → ℕ) (x : Task) (ks ps qs : List ℕ) : Type 0 where
    pub answers : ks ≡ map (fault x.shape.rows x.shape.cols) (steps_of value x.script)
    pub after : (b : ℕ) → b < x.shape.lanes
        → slice_index ps b ≡ number (paired_after x.shape.rows x.shape.cols (steps_of value x.script) (lane_of value o x.shape b (shown x.state)) (lane_of value o x.shape b (shown x.weights)))
    pub before : (b : ℕ) → b < x.shape.lanes
        → slice_index qs b ≡ number (paired_before x.shape.rows x.shape.cols (steps_of value x.script) (lane_of value o x.shape b (shown x.state)) (lane_of value o x.shape b (shown x.weights)))

-- ---- the tests

-- more than 1,024 whole numbers in a table, a vector or the script
abbrev pub over_limits : Task → Bool
over_limits x = nat_lt 1024 (length x.state.table.now) || (nat_lt 1024 (length x.state.first.now) || nat_lt 1024 (length x.script.numbers.now))

-- the state, the weights, one answer for each step and two numbers for each lane, then the limits
abbrev pub task_tests : Task → ℕ → ℕ → ℕ → List (ℕ × Bool)
task_tests x ks ps qs =
    parts_tests x.shape (lengths (shown x.state))
    ++ (parts_tests x.shape (lengths (shown x.weights))
    ++ ((3, not (ks == length x.script.steps.now) || (not (ps == x.shape.lanes) || not (qs == x.shape.lanes)))
    ∷ (14, over_limits x) ∷ []))

-- what passing them tells
pub record Workable (x : Task) (ks ps qs : ℕ) : Type 0 where
  pub state : Holds x.shape (lengths (shown x.state))
  pub weights : Holds x.shape (lengths (shown x.weights))
  pub answers : ks ≡ length x.script.steps.now
  pub after : ps ≡ x.shape.lanes
  pub before : qs ≡ x.shape.lanes
  pub table : length x.state.table.now ≤ 1024
  pub vector : length x.state.first.now ≤ 1024
  pub numbers : length x.script.numbers.now ≤ 1024

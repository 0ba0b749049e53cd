-- The tests of the pairing's memories, and the pairing of each lane. Assumes nothing.
use Rattle.std.specs.Prelude.{◌≡◌, ℕ, Bool, not, List, [], ◌∷◌, ◌++◌, ◌==◌}
use Rattle.scalar.specs.Ops.{Ops}
use Rattle.shape.specs.declared.operand.TableShape.{TableShape}
use Rattle.steps.specs.States.{pairing}
use Rattle.state.specs.declared.parts.Parts.{Parts}
use Rattle.state.specs.Memory.{Memory, lane_of, parts_tests, Holds}

-- the memories of D, u, v, of E, p, q and of the sums, by their lengths
abbrev pub pairing_tests : TableShape → Parts ℕ → Parts ℕ → ℕ → List (ℕ × Bool)
pairing_tests t s w sl = parts_tests t s ++ (parts_tests t w ++ ((3, not (sl == t.lanes)) ∷ []))

-- what passing them tells
pub record Pairable (t : TableShape) (s w : Parts ℕ) (sl : ℕ) : Type 0 where
  pub state : Holds t s
  pub weights : Holds t w
  pub sums : sl ≡ t.lanes

-- the pairing of lane b of a state with lane b of weights
abbrev pub lane_pairing : {S M : Type 0} → (S → M) → Ops M → TableShape → Memory S → Memory S → ℕ → M
lane_pairing means o t s w b = pairing o t.rows t.cols (lane_of means o t b s) (lane_of means o t b w)

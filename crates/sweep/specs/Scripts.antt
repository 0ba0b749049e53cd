-- What is tested before a whole script is run, and that its two runs are paired alike. Assumes nothing.
use Rattle.std.specs.Prelude.{◌≡◌, ℕ, ◌<◌, Bool, not, List, [], ◌∷◌, ◌++◌, ◌==◌}
use Rattle.scalar.specs.Ops.{Ops}
use Rattle.shape.specs.declared.operand.TableShape.{TableShape}
use Rattle.steps.specs.States.{pairing}
use Rattle.state.specs.declared.parts.Parts.{Parts}
use Rattle.state.specs.Memory.{Memory, lane_of}
use Rattle.forward.specs.Tests.{memory_tests}
use Rattle.backward.specs.Tests.{weights_tests}

-- the memories of the state, those of the weights, and one answer for each of `count` steps
abbrev pub run_tests : TableShape → ℕ → Parts ℕ → Parts ℕ → ℕ → ℕ → ℕ → List (ℕ × Bool)
run_tests t count s w wl len al = memory_tests t s len ++ (weights_tests t w wl len ++ ((3, not (al == count)) ∷ []))

-- in each lane the state s' at the end paired with the weights w is the state s at the beginning paired with the weights w' carried back
abbrev pub PairedAlike : {S M : Type 0} → (S → M) → Ops M → TableShape → Memory S → Memory S → Memory S → Memory S → Type 0
PairedAlike means o t s s' w w' =
    (b : ℕ) → b < t.lanes → pairing o t.rows t.cols (lane_of means o t b s') (lane_of means o t b w) ≡ pairing o t.rows t.cols (lane_of means o t b s) (lane_of means o t b w')

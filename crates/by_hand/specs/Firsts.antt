-- The first steps of a script, and what is tested before they are taken. Assumes nothing.
use Rattle.std.specs.Prelude.{ℕ, Bool, List, map, take, [], ◌∷◌, ◌++◌, nat_lt}
use Rattle.shape.specs.declared.operand.TableShape.{TableShape}
use Rattle.steps.specs.Steps.{Step}
use Rattle.state.specs.Memory.{step_of}
use Rattle.state.specs.declared.parts.Parts.{Parts}
use Rattle.state.specs.declared.record.Script.{Script}
use Rattle.forward.specs.Tests.{memory_tests}
use Rattle.backward.specs.Tests.{weights_tests}

-- the first n steps of a script, with its numbers and indices
abbrev pub first_steps : {S M : Type 0} → (S → M) → Script S → ℕ → List (Step M)
first_steps means script n = map (λ x. step_of means x script) (take n script.steps.now)

-- the memories of the state and those of the weights, by their lengths
abbrev pub lent_tests : TableShape → Parts ℕ → Parts ℕ → ℕ → ℕ → List (ℕ × Bool)
lent_tests t s w wl len = memory_tests t s len ++ weights_tests t w wl len

-- then that a script of `count` steps has fewer than n
abbrev pub first_tests : TableShape → ℕ → Parts ℕ → Parts ℕ → ℕ → ℕ → ℕ → List (ℕ × Bool)
first_tests t count s w wl len n = lent_tests t s w wl len ++ ((12, nat_lt count n) ∷ [])

-- The tests of the memories of a step back, in their order. Assumes nothing.
use Rattle.std.specs.Prelude.{ℕ, Bool, List, [], ◌∷◌, ◌++◌}
use Rattle.shape.specs.Shapes.{misfit, Fits}
use Rattle.shape.specs.declared.operand.TableShape.{TableShape}
use Rattle.state.specs.declared.parts.Parts.{Parts}
use Rattle.state.specs.Memory.{vector_of}
use Rattle.forward.specs.Tests.{memory_tests, Roomy}

-- the memories of E, p and q, that of the work, and the vector w for a sum, by their lengths
abbrev pub weights_tests : TableShape → Parts ℕ → ℕ → ℕ → List (ℕ × Bool)
weights_tests t l wl len = memory_tests t l len ++ ((3, misfit (vector_of t).of wl) ∷ [])

-- what passing them tells
pub record Lent (t : TableShape) (l : Parts ℕ) (wl len : ℕ) : Type 0 where
  pub room : Roomy t l len
  pub sum : Fits (vector_of t).of wl

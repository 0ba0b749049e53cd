-- The tests of the memories of a step, in their order. Assumes nothing.
use Rattle.std.specs.Prelude.{ℕ, ◌≤◌, Bool, List, [], ◌∷◌, ◌++◌, nat_lt}
use Rattle.shape.specs.declared.operand.TableShape.{TableShape}
use Rattle.state.specs.declared.parts.Parts.{Parts}
use Rattle.state.specs.Memory.{parts_tests, Holds}

-- the memories of the table and of the two vectors, and that of the work, by their lengths
abbrev pub memory_tests : TableShape → Parts ℕ → ℕ → List (ℕ × Bool)
memory_tests t l wl = parts_tests t l ++ ((3, nat_lt wl 8) ∷ [])

-- what passing them tells
pub record Roomy (t : TableShape) (l : Parts ℕ) (wl : ℕ) : Type 0 where
  pub parts : Holds t l
  pub work : 8 ≤ wl

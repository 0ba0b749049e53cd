-- What is tested before a sweep opens, and before it takes or carries a step. Assumes nothing.
use Rattle.std.specs.Prelude.{ℕ, Bool, ◌||◌, List, [], ◌∷◌, ◌++◌, ◌==◌, nat_le, nat_lt}
use Rattle.shape.specs.Shapes.{no_lanes, too_large}
use Rattle.shape.specs.declared.operand.TableShape.{TableShape}
use Rattle.state.specs.declared.parts.Parts.{Parts}
use Rattle.forward.specs.Tests.{memory_tests}
use Rattle.backward.specs.Tests.{weights_tests}
use Rattle.sweep.specs.declared.sweep.Sweep.{Sweep}
use Rattle.sweep.specs.declared.sweep.Turned.{Turned}

abbrev pub open_tests : TableShape → List (ℕ × Bool)
open_tests t = (1, no_lanes t) ∷ (2, too_large t) ∷ []

-- a script of `count` steps has none left to take
abbrev pub no_next : Sweep → ℕ → List (ℕ × Bool)
no_next s count = (12, nat_le count s.taken) ∷ []

-- none is left to carry, or the script lacks it
abbrev pub no_latest : Turned → ℕ → List (ℕ × Bool)
no_latest s count = (12, (s.left == 0) || nat_lt count s.left) ∷ []

-- memories by their lengths
abbrev pub forward_tests : Sweep → ℕ → Parts ℕ → ℕ → List (ℕ × Bool)
forward_tests s count l len = memory_tests s.shape l len ++ no_next s count

abbrev pub back_tests : Turned → ℕ → Parts ℕ → ℕ → ℕ → List (ℕ × Bool)
back_tests s count l wl len = weights_tests s.shape l wl len ++ no_latest s count

-- The lines that are written. Assumes nothing.
use Rattle.std.specs.Prelude.{◌≡◌, ℕ, zero, suc, ◌+◌, List, [], ◌∷◌, ◌++◌, length, take, drop, codes, decimal}

-- numbers in decimal, each after a tab (9)
abbrev pub tabbed : List ℕ → List ℕ
tabbed [] = []
tabbed (n ∷ ns) = (9 ∷ decimal n) ++ tabbed ns

-- a word and its numbers, ended by a newline (10)
abbrev pub line : List ℕ → List ℕ → List ℕ
line word numbers = (word ++ tabbed numbers) ++ (10 ∷ [])

-- the line and the number of a fault
abbrev pub fault_line : ℕ → ℕ → List ℕ
fault_line place number = line (codes "fault") (place ∷ number ∷ [])

-- the steps from the place i on, each with its number
abbrev pub step_lines : ℕ → List ℕ → List ℕ
step_lines i [] = []
step_lines i (n ∷ ns) = line (codes "step") (i ∷ n ∷ []) ++ step_lines (i + 1) ns

-- the first n lanes, each with its pairings f after the run forward and g before it
abbrev pub lane_lines : ℕ → (ℕ → ℕ) → (ℕ → ℕ) → List ℕ
lane_lines zero f g = []
lane_lines (suc n) f g = lane_lines n f g ++ line (codes "lane") (n ∷ f n ∷ g n ∷ [])

-- the bytes s stand in new from the place at on, up to the place here; all other bytes are those of old
pub record Written (old new : List ℕ) (at : ℕ) (s : List ℕ) (here : ℕ) : Type 0 where
  pub end : here ≡ at + length s
  pub bytes : new ≡ take at old ++ (s ++ drop (at + length s) old)

-- The lines of a text and the fields of a line. Assumes nothing.
use Rattle.std.specs.Prelude.{ℕ, ◌+◌, cond, List, [], ◌∷◌, ◌==◌}

-- the first part with b before it; b alone where there is no part
abbrev pub grown : ℕ → List (List ℕ) → List (List ℕ)
grown b [] = (b ∷ []) ∷ []
grown b (p ∷ ps) = (b ∷ p) ∷ ps

-- a line ends at its newline (10), the last one perhaps at the end of the text
abbrev pub lines : List ℕ → List (List ℕ)
lines [] = []
lines (b ∷ bs) = cond (b == 10) ([] ∷ lines bs) (grown b (lines bs))

-- tabs (9) stand between the fields of a line
abbrev pub fields : List ℕ → List (List ℕ)
fields [] = [] ∷ []
fields (b ∷ bs) = cond (b == 9) ([] ∷ fields bs) (grown b (fields bs))

-- the fields of what follows a field, each after its tab; none where no tab follows
abbrev pub more : List ℕ → List (List ℕ)
more [] = []
more (b ∷ bs) = cond (b == 9) (fields bs) []

-- how many bytes stand before the first byte s
abbrev pub before : ℕ → List ℕ → ℕ
before s [] = 0
before s (b ∷ bs) = cond (b == s) 0 (1 + before s bs)

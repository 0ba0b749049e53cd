-- Lists of rows: which are outside, and what rows hold after a list has been gone through. Assumes nothing.
use Rattle.std.specs.List.{list_any}
use Rattle.std.specs.Prelude.{ℕ, suc, ◌<◌, Bool, List, [], ◌∷◌, length, ◌==◌, nat_le, slice_index, if◌then◌else◌}

-- some index of the list is not below n
abbrev pub outside : ℕ → List ℕ → Bool
outside n list = list_any (nat_le n) list

-- every index is below n
abbrev pub Inside : ℕ → List ℕ → Type 0
Inside n list = (i : ℕ) → i < length list → slice_index list i < n

-- what row k holds after the entries of the list, counted from place i on, have each put `u place` into the row
-- that they name: of several that name k the later wins, and where none does it holds what it held
abbrev pub settled : {A : Type 0} → List ℕ → ℕ → ℕ → (ℕ → A) → A → A
settled [] i k u held = held
settled (m ∷ ms) i k u held = settled ms (suc i) k u (if m == k then u i else held)

-- What a call left in a memory: which cells became what, and that no other moved. Assumes nothing.
use Rattle.std.specs.Prelude.{◌≡◌, ℕ, ◌+◌, ◌<◌, ◌≤◌, ◌⊎◌, List, slice_index_or}
use Rattle.shape.specs.Shapes.{cell, In}
use Rattle.shape.specs.declared.operand.TableShape.{TableShape}

-- the cells (lane b, column j, row i) that D names hold a value of which P speaks,
-- and every other cell holds the value that it held
pub record Changed {S : Type 0} (t : TableShape) (D : ℕ → ℕ → ℕ → Type 0) (P : ℕ → ℕ → ℕ → S → Type 0) (old cur : List S) : Type 0 where
  pub written : (b j i : ℕ) (d : S) → In t b j i → D b j i → P b j i (slice_index_or cur (cell t b j i) d)
  pub kept : (b j i : ℕ) (d : S) → In t b j i → (D b j i → ⊥) → slice_index_or cur (cell t b j i) d ≡ slice_index_or old (cell t b j i) d

-- the value means what `new` says of its cell
abbrev pub meant : {S M : Type 0} → (S → M) → (ℕ → ℕ → ℕ → M) → ℕ → ℕ → ℕ → S → Type 0
meant means new b j i v = means v ≡ new b j i

-- the same of the k entries from place a on
pub record RunChanged {S : Type 0} (a k : ℕ) (P : ℕ → S → Type 0) (old cur : List S) : Type 0 where
  pub written : (i : ℕ) (d : S) → i < k → P i (slice_index_or cur (a + i) d)
  pub kept : (p : ℕ) (d : S) → (p < a) ⊎ (a + k ≤ p) → slice_index_or cur p d ≡ slice_index_or old p d

-- ---- cells by lane b, column j and row i

abbrev pub Everywhere : ℕ → ℕ → ℕ → Type 0
Everywhere b j i = Unit {0}

-- column c of every lane
abbrev pub InColumn : ℕ → ℕ → ℕ → ℕ → Type 0
InColumn c b j i = j ≡ c

-- n columns from c on: of every lane, of lane l, of the lanes below m
abbrev pub InBand : ℕ → ℕ → ℕ → ℕ → ℕ → Type 0
InBand c n b j i = (c ≤ j) × (j < c + n)

abbrev pub LaneBand : ℕ → ℕ → ℕ → ℕ → ℕ → ℕ → Type 0
LaneBand l c n b j i = (b ≡ l) × (c ≤ j) × (j < c + n)

abbrev pub LanesBand : ℕ → ℕ → ℕ → ℕ → ℕ → ℕ → Type 0
LanesBand m c n b j i = (b < m) × (c ≤ j) × (j < c + n)

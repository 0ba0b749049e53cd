-- What a row becomes under each way of going through a list, and when that can be done. Assumes nothing.
use Rattle.std.specs.Prelude.{◌≡◌, ℕ, Bool, false, not, ◌||◌, List, length, ◌==◌, slice_index}
use Rattle.index.specs.Indices.{outside, Inside, settled}
use Rattle.index.specs.declared.route.Route.{Route}
use Rattle.index.specs.declared.route.Route.TheVariants.{Gather, Scatter, Copy}

-- row k, from the source's rows u and what it held
abbrev pub became : {A : Type 0} → Route → List ℕ → (ℕ → A) → A → ℕ → A
became Gather list u held k = u (slice_index list k)
became Scatter list u held k = settled list 0 k u held
became Copy list u held k = settled list 0 k (λ i. u (slice_index list i)) held

-- the rows that are read and written exist: m rows of the source, n of the destination
abbrev pub Ready : Route → List ℕ → ℕ → ℕ → Type 0
Ready Gather list m n = (length list ≡ n) × Inside m list
Ready Scatter list m n = (length list ≡ m) × Inside n list
Ready Copy list m n = Inside m list × Inside n list

-- the tests of that, for a list of `len` entries and its indices
abbrev pub wrong_length : Route → ℕ → ℕ → ℕ → Bool
wrong_length Gather len m n = not (len == n)
wrong_length Scatter len m n = not (len == m)
wrong_length Copy len m n = false

abbrev pub beyond : Route → List ℕ → ℕ → ℕ → Bool
beyond Gather list m n = outside m list
beyond Scatter list m n = outside n list
beyond Copy list m n = outside m list || outside n list

-- of entry i, which names row k: the source's row, and the destination's that becomes it
abbrev pub pair_of : Route → ℕ → ℕ → ℕ × ℕ
pair_of Gather i k = (k, i)
pair_of Scatter i k = (i, k)
pair_of Copy i k = (k, k)

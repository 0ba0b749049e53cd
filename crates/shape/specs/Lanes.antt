-- The lane rule. Assumes nothing.
use Rattle.std.specs.Prelude.{ℕ, ◌*◌, ◌/◌, ◌%◌, Bool, not, ◌||◌, ◌==◌}

-- the source lane, of s, that lane b of n reads
abbrev pub lane_for : ℕ → ℕ → ℕ → ℕ
lane_for b s n = b * s / n

-- s lanes go into n where s = n, s = 1, or n is a multiple of s
abbrev pub no_broadcast : ℕ → ℕ → Bool
no_broadcast s n = not (s == n || (s == 1 || n % s == 0))

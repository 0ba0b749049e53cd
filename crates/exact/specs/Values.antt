-- What a whole number means in a ring of numbers modulo m. Assumes nothing.
use Rattle.std.specs.Prelude.{ℕ, ◌-◌, ◌%◌, ◌^◌, ℤ, pos, unsigned_abs, int_lt, if◌then◌else◌}
use Rattle.scalar.specs.Modular.{Below, wrap, residue, modulus}

-- the number that stands for v: its size, or m less its size where v is negative
abbrev pub code : ℕ → ℤ → ℕ
code m v = (if int_lt v (pos 0) then m - unsigned_abs v % m else unsigned_abs v)

-- what v means among the numbers modulo 2^64, and among those modulo 2,147,483,647
abbrev pub wrap_value : ℤ → Below (2 ^ 64)
wrap_value v = wrap (code (2 ^ 64) v)

abbrev pub residue_value : ℤ → Below modulus
residue_value v = residue (code modulus v)

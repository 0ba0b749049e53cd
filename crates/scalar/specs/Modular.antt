-- The numbers modulo m: a meaning is the remainder, with its bound. Assumes nothing.
use Rattle.std.specs.Prelude.{ℕ, ◌+◌, ◌-◌, ◌*◌, ◌%◌, ◌^◌, ◌<◌, ◌==◌}
use Rattle.std.proofs.Common.{mod-lt, lit<}
use Rattle.scalar.specs.Ops.{Ops}

pub record Below (m : ℕ) : Type 0 where
  pub number : ℕ
  pub less : number < m

module _ (m : ℕ) (positive : 0 < m) where
  -- what the number n means
  abbrev pub modulo : ℕ → Below m
  modulo n = record { number = n % m; less = mod-lt n positive }

  abbrev pub modular : Ops (Below m)
  modular = record {
    zero = modulo 0;
    one = modulo 1;
    plus = λ a b. modulo (a.number + b.number);
    times = λ a b. modulo (a.number * b.number);
    minus = λ a. modulo (m - a.number);
    is_zero = λ a. (a.number == 0);
  }

-- 64-bit numbers
abbrev pub wrap : ℕ → Below (2 ^ 64)
wrap = modulo (2 ^ 64) (lit< tt)

abbrev pub wraps : Ops (Below (2 ^ 64))
wraps = modular (2 ^ 64) (lit< tt)

-- residues of the prime 2^31 - 1
abbrev pub modulus : ℕ
modulus = 2147483647

abbrev pub residue : ℕ → Below modulus
residue = modulo modulus (lit< tt)

abbrev pub residues : Ops (Below modulus)
residues = modular modulus (lit< tt)

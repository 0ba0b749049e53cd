-- IEEE 754's formats as scalars: each operation is rounded once, and there is one not-a-number. Assumes nothing.
use Rattle.std.specs.Prelude.{Bool, false, pos, ◌==◌, Float}
use Rattle.std.specs.Float.{Format, nan, inf, fin}
use Rattle.std.specs.Float.Ieee.{add, mul, neg}
use Rattle.scalar.specs.Ops.{Ops}

abbrev pub zero_float : Float
zero_float = fin false 0 (pos 0)

abbrev pub one_float : Float
one_float = fin false 1 (pos 0)

-- 0 and −0
abbrev pub is_zero_float : Float → Bool
is_zero_float nan = false
is_zero_float (inf s) = false
is_zero_float (fin s m e) = m == 0

abbrev pub rounded : Format → Ops Float
rounded f = record {
  zero = zero_float;
  one = one_float;
  plus = add f;
  times = mul f;
  minus = neg;
  is_zero = is_zero_float;
}

-- A value and a slope over any scalar: the operations of truncated first-order polynomials. Assumes nothing.
use Rattle.std.specs.Prelude.{◌&&◌}
use Rattle.scalar.specs.Ops.{Ops}

-- (a, s)·(b, t) = (a·b, a·t + s·b)
abbrev pub paired : {M : Type 0} → Ops M → Ops (M × M)
paired o = record {
  zero = (o.zero, o.zero);
  one = (o.one, o.zero);
  plus = λ a b. (o.plus a.0 b.0, o.plus a.1 b.1);
  times = λ a b. (o.times a.0 b.0, o.plus (o.times a.0 b.1) (o.times a.1 b.0));
  minus = λ a. (o.minus a.0, o.minus a.1);
  is_zero = λ a. o.is_zero a.0 && o.is_zero a.1;
}

-- What a call makes of one entry, over the operations of any scalar. Assumes nothing.
use Rattle.std.specs.Prelude.{cond}
use Rattle.scalar.specs.Ops.{Ops}

-- BLAS's axpy with a factor for y too: a·x + b·y, and a·x alone where b is zero
abbrev pub blend : {M : Type 0} → Ops M → M → M → M → M → M
blend o a x b y = cond (o.is_zero b) (o.times a x) (o.plus (o.times a x) (o.times b y))

-- a difference adds the negation
abbrev pub less : {M : Type 0} → Ops M → M → M → M
less o x y = o.plus x (o.minus y)

use Rattle.std.proofs.Common.{ap, ◌∙◌}
use lib.Ieee.{eq}
use Rattle.scalar.specs.FloatValues.{zero_bits_64, is_zero}
use Rattle.scalar.proofs.floats.F64Scalar.is_zero.Goals as goal

pub returns : goal.returns
returns c = ap (eq c.args.self) zero_bits_64 ∙ is_zero c.args.self

use Rattle.scalar.specs.ModularRing.{modulo_minus}
use Rattle.scalar.proofs.modular.WrapScalar.neg.Goals as goal

pub returns : goal.returns
returns c = modulo_minus _ _ _ _ c.wrapping_neg.ensures

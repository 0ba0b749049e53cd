use Rattle.std.proofs.Common.{◌∙◌}
use Rattle.scalar.specs.ModularRing.{modulo_mod, modulo_times}
use Rattle.scalar.proofs.modular.WrapScalar.mul.Goals as goal

pub returns : goal.returns
returns c = modulo_mod _ _ _ ∙ modulo_times _ _ _ _

use Rattle.std.proofs.Common.{◌∙◌}
use Rattle.scalar.specs.ModularRing.{modulo_mod, modulo_plus}
use Rattle.scalar.proofs.modular.WrapScalar.add.Goals as goal

pub returns : goal.returns
returns c = modulo_mod _ _ _ ∙ modulo_plus _ _ _ _

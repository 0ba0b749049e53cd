use Rattle.std.proofs.Common.{mod-lt, lit<}
use Rattle.scalar.specs.ModularRing.{modulo_mod}
use Rattle.scalar.proofs.modular.ResidueFromU64.from.Goals as goal

pub returns : goal.returns
returns c = (modulo_mod _ _ _, mod-lt _ (lit< tt))

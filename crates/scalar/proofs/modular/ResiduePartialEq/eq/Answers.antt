use Rattle.std.proofs.Common.{ap, eq-eqb, eqb-true}
use Rattle.scalar.specs.Modular.{Below, modulus}
use Rattle.scalar.specs.ModularRing.{below_same}
use Rattle.scalar.proofs.modular.ResiduePartialEq.eq.Goals as goal

pub returns-clause-meanings : goal.returns-clause-meanings
returns-clause-meanings c = (
  λ e. below_same _ _ (eqb-true _ _ e),
  λ e. eq-eqb _ _ (ap (λ (b : Below modulus). b.number) e),
)

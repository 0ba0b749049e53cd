use Rattle.steps.proofs.Transposes.{runs_transposed}
use Rattle.steps.proofs.laws.runs_are_transposed.Goals as goal

pub returns : goal.returns
returns g c = λ e. runs_transposed (g.met.S.Scalar.ring e)

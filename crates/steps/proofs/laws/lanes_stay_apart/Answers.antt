use Rattle.steps.proofs.Alikes.{lanes_apart}
use Rattle.steps.proofs.laws.lanes_stay_apart.Goals as goal

pub returns : goal.returns
returns g c = lanes_apart g.S.Scalar.ops

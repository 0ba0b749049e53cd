use Rattle.std.proofs.Common.{refl}
use Rattle.state.specs.Memory.{held}
use Rattle.state.proofs.Records.{given_or}
use Rattle.backward.proofs.Carried.{carried}
use Rattle.backward.proofs.step.back_accepted.Goals as goal

pub returns-clause-carried : goal.returns-clause-carried
returns-clause-carried g c =
    carried g.S.Scalar.means g.S.Scalar.ops c.args.t c.args.x c.args.script c.requires.passed (held c.args.weights.now) _ _ _
    (given_or _ _ _ _ c.unwrap_or-numbers.ensures refl c.numbers_of.ensures)
    (given_or _ _ _ _ c.unwrap_or-list.ensures refl c.list_of.ensures)
    c.back_kind.ensures.back

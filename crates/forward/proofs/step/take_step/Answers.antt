use Rattle.std.proofs.Common.{refl}
use Rattle.state.specs.Memory.{held}
use Rattle.state.proofs.Records.{given_or}
use Rattle.forward.proofs.Taken.{taken}
use Rattle.forward.proofs.step.take_step.Goals as goal

pub returns-clause-taken : goal.returns-clause-taken
returns-clause-taken g c =
    taken g.S.Scalar.means g.S.Scalar.ops c.args.t c.args.x c.args.script c.requires.passed (held c.args.state.now) _ _ _
    (given_or _ _ _ _ c.unwrap_or-numbers.ensures refl c.numbers_of.ensures)
    (given_or _ _ _ _ c.unwrap_or-list.ensures refl c.list_of.ensures)
    c.take_kind.ensures.forward

use Rattle.std.proofs.Common.{rules}
use Rattle.vector.proofs.Tested.{batched_passed}
use Rattle.vector.proofs.batch.check_batched.Goals as goal

pub returns-5-clause-lawful : goal.returns-5-clause-lawful
returns-5-clause-lawful c = batched_passed c.args.factors c.args.factors_len c.args.x c.args.x_len c.args.y c.args.y_len (search rules)

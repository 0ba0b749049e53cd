use Rattle.std.proofs.Common.{rules}
use Rattle.norm.proofs.Tested.{norm_passed}
use Rattle.norm.proofs.norms.check_norm.Goals as goal

pub returns-5-clause-lawful : goal.returns-5-clause-lawful
returns-5-clause-lawful c = norm_passed c.args.x c.args.x_len c.args.y c.args.y_len c.args.atol c.args.atol_len (search rules)

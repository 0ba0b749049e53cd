use Rattle.std.proofs.Common.{rules}
use Rattle.index.proofs.Tested.{route_passed}
use Rattle.index.proofs.check.check_route.Goals as goal

pub returns-5-clause-lawful : goal.returns-5-clause-lawful
returns-5-clause-lawful c = route_passed c.args.route c.args.x c.args.x_len c.args.list.now c.args.y c.args.y_len (search rules)

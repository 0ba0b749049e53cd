use Rattle.std.proofs.Common.{rules}
use Rattle.table.proofs.Tested.{three_passed}
use Rattle.table.proofs.check.check_three.Goals as goal

pub returns-4-clause-lawful : goal.returns-4-clause-lawful
returns-4-clause-lawful c = three_passed _ _ _ _ _ _ (search rules)

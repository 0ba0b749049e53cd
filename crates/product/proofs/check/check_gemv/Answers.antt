use Rattle.std.proofs.Common.{rules}
use Rattle.product.proofs.Passed.{gemv_passed}
use Rattle.product.proofs.check.check_gemv.Goals as goal

pub returns-4-clause-lawful : goal.returns-4-clause-lawful
returns-4-clause-lawful c = gemv_passed _ _ _ _ _ _ (search rules)

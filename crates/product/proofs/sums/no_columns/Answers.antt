use Rattle.std.proofs.Common.{arith, rules}
use Rattle.scalar.proofs.Stored.{at_get}
use Rattle.product.proofs.sums.no_columns.Goals as goal

pub returns-then-is_zero : goal.returns-then-is_zero
returns-then-is_zero g c = λ i d h. let p = c.rewrite.ensures i d h in search rules

pub returns-else-is_zero : goal.returns-else-is_zero
returns-else-is_zero g c = λ i d h.
    let p = c.rewrite-else-is_zero.ensures i d h in
    grind (arith, at_get)

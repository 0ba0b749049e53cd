use Rattle.std.proofs.Common.{arith}
use Rattle.std.proofs.lemmas.List.{get_or_default}
use Rattle.scalar.proofs.Stored.{at_get}
use Rattle.product.proofs.sums.first_column.Goals as goal

pub returns-then-is_zero : goal.returns-then-is_zero
returns-then-is_zero g c = λ i e h.
    let p = c.rewrite.ensures i e h in
    grind (arith, get_or_default, at_get)

pub returns-else-is_zero : goal.returns-else-is_zero
returns-else-is_zero g c = λ i e h.
    let p = c.rewrite-else-is_zero.ensures i e h in
    grind (arith, get_or_default, at_get)

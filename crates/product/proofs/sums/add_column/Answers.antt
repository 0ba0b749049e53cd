use Rattle.std.proofs.Common.{length, arith}
use Rattle.std.proofs.lemmas.List.{get_or_default}
use Rattle.scalar.proofs.Stored.{at_get, at_part}
use Rattle.product.proofs.sums.add_column.Goals as goal

pub returns : goal.returns
returns g c = λ i e h.
    let s = g.S.Scalar in
    let d = at_part s.means s.ops c.args.from (length c.args.y.now) i c.args.d.now c.requires (omega arith) in
    let p = c.rewrite.ensures i e h in
    grind (arith, get_or_default, at_get)

use Rattle.std.proofs.Common.{◌≡◌, length, sym, ◌∙◌, ap₂, arith}
use Rattle.std.proofs.lemmas.List.{length_push}
use Rattle.scalar.specs.Sums.{at}
use Rattle.scalar.proofs.Stored.{next_is}
use Rattle.scalar.proofs.SumLaws.{sum_next}
use Rattle.pairing.proofs.add_products.Goals as goal

pub loop-x-preserved : goal.loop-x-preserved
loop-x-preserved g c =
    let s = g.S.Scalar in
    let n = length c.loop-x.yielded in
    let so = c.loop-x.invariant in
    let next = c.in-Some.ensures.steps in
    let x = next_is s.means s.ops c.args.xs.now _ _ n c.in-Some.x.now so.x_left next.0 in
    let y = next_is s.means s.ops c.args.ys.now _ _ n c.in-Some.y.now so.y_left next.1 in
    let term : s.means c.mul.result ≡ s.ops.times (at s.means s.ops c.args.xs.now n) (at s.means s.ops c.args.ys.now n) = rw (x.1, y.1) c.mul.ensures in
    rw (length_push c.loop-x.yielded (c.in-Some.x, c.in-Some.y))
    (record { within = omega (arith, x.2); x_left = x.0; y_left = y.0; so_far = c.add-sum.ensures ∙ ap₂ s.ops.plus so.so_far term ∙ sym (sum_next s.ops _ _ n) })

use Rattle.std.proofs.Common.{ap, ◌∙◌, ap₂}
use Rattle.scalar.specs.Sums.{sum_from}
use Rattle.scalar.proofs.SumLaws.{sum_same}
use Rattle.shape.proofs.Parts.{length_part}
use Rattle.scalar.proofs.Stored.{at_part}
use Rattle.pairing.proofs.add_part.Goals as goal

pub returns : goal.returns
returns g c =
    let s = g.S.Scalar in
    let n = c.args.rows in
    c.add_products.ensures ∙ ap (sum_from s.ops (s.means c.args.sum) _) (length_part c.args.xs.now c.args.from n c.requires.entries)
    ∙ sum_same s.ops (s.means c.args.sum) _ _ n
    (λ i h. ap₂ s.ops.times (at_part s.means s.ops c.args.from n i c.args.xs.now c.requires.entries h) (at_part s.means s.ops c.args.from n i c.args.ys.now c.requires.weights h))

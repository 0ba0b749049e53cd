use Rattle.std.proofs.Common.{◌∙◌}
use Rattle.shape.proofs.Parts.{length_part}
use Rattle.scalar.proofs.Stored.{at_part}
use Rattle.norm.proofs.Lent.{mean_of}
use Rattle.norm.proofs.norms.norm_part.Goals as goal

pub returns : goal.returns
returns g c =
    let s = g.S.Ordered in
    let n = c.args.rows in
    c.norm_run.ensures
    ∙ mean_of s.ops s.order _ n _ _ _ _ (s.means c.args.rtol) _ _ (length_part c.args.xs.now c.args.x_from n c.requires.first)
    (λ i h. at_part s.means s.ops c.args.x_from n i c.args.xs.now c.requires.first h)
    (λ i h. at_part s.means s.ops c.args.y_from n i c.args.ys.now c.requires.second h)
    (λ i h. at_part s.means s.ops c.args.atol_from n i c.args.atols.now c.requires.third h)

use Rattle.std.proofs.Common.{refl}
use Rattle.shape.proofs.Parts.{length_part}
use Rattle.scalar.proofs.Stored.{at_part}
use Rattle.norm.proofs.Signs.{says_at}
use Rattle.norm.proofs.roots.root_part.Goals as goal

pub returns : goal.returns
returns g c =
    let s = g.S.Ordered in
    let n = c.args.rows in
    says_at s.means s.ops s.order _ _ _ _ _ n _ _ _ _ (length_part c.args.g0s.now c.args.from0 n c.requires.first)
    (λ i h. at_part s.means s.ops c.args.from0 n i c.args.g0s.now c.requires.first h)
    (λ i h. at_part s.means s.ops c.args.from1 n i c.args.g1s.now c.requires.second h) refl c.root_run.ensures

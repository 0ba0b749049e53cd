use Rattle.std.proofs.Common.{◌+◌, get_or, ap, ◌∙◌, arith}
use Rattle.std.proofs.lemmas.List.{get_or_default}
use Rattle.shape.proofs.Parts.{part_get, length_part, part_changed}
use Rattle.index.specs.Indices.{settled}
use Rattle.index.proofs.Settles.{settled_same}
use Rattle.index.proofs.cells.set_part.Goals as goal

pub returns : goal.returns
returns g c =
    let dst = c.args.dst.now in
    let src = c.args.src.now in
    let xs = c.args.xs.now in
    let ys = c.args.ys.now in
    let from = c.args.from in
    let to = c.args.to in
    let m = c.args.m in
    let n = c.args.n in
    let part = length_part ys to n c.requires.target in
    part_changed to n _ ys c.set_run.new.y c.requires.target (c.set_run.auto.y ∙ part)
    (λ k e h d.
    get_or_default c.set_run.new.y k e d (omega (arith, c.set_run.auto.y))
    ∙ c.set_run.ensures k d (omega arith)
    ∙ settled_same _ (λ p. get_or xs (from + get_or src p 0) d) dst 0 k _ (λ p _ l. part_get from m (get_or src p 0) xs d c.requires.source (c.requires.rows p (omega arith)))
    ∙ ap (λ z. settled dst 0 k (λ p. get_or xs (from + get_or src p 0) d) z) (part_get to n k ys d c.requires.target h))

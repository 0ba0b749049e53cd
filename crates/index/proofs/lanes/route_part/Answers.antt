use Rattle.std.proofs.Common.{◌+◌, get_or, ap, ◌∙◌, arith}
use Rattle.std.proofs.lemmas.List.{get_or_default}
use Rattle.shape.proofs.Parts.{part_get, length_part, part_changed}
use Rattle.index.specs.Routes.{became}
use Rattle.index.proofs.Settles.{became_same}
use Rattle.index.proofs.lanes.route_part.Goals as goal

pub returns : goal.returns
returns g c =
    let route = c.args.route in
    let list = c.args.list.now in
    let xs = c.args.xs.now in
    let ys = c.args.ys.now in
    let from = c.args.from in
    let to = c.args.to in
    let m = c.args.m in
    let n = c.args.n in
    let part = length_part ys to n c.requires.target in
    part_changed to n _ ys c.route_run.new.y c.requires.target (c.route_run.auto.y ∙ part)
    (λ k e h d.
    get_or_default c.route_run.new.y k e d (omega (arith, c.route_run.auto.y))
    ∙ c.route_run.ensures k d (omega arith)
    ∙ became_same route list m n _ (λ i. get_or xs (from + i) d) _ k c.requires.ready h (λ i l. part_get from m i xs d c.requires.source l)
    ∙ ap (λ z. became route list (λ i. get_or xs (from + i) d) z k) (part_get to n k ys d c.requires.target h))

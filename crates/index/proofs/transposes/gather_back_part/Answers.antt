use Rattle.std.proofs.Common.{◌+◌, get_or, ap, ◌∙◌, arith}
use Rattle.std.proofs.lemmas.List.{get_or_default}
use Rattle.shape.proofs.Parts.{part_get, length_part, part_changed}
use Rattle.index.proofs.Backs.{gathered_like}
use Rattle.index.proofs.transposes.gather_back_part.Goals as goal

pub returns : goal.returns
returns g c =
    let s = g.S.Scalar in
    let ps = c.args.ps.now in
    let qs = c.args.qs.now in
    let from = c.args.from in
    let to = c.args.to in
    let m = c.args.m in
    let n = c.args.n in
    let part = length_part qs to n c.requires.second in
    part_changed to n _ qs c.gather_back_run.new.q c.requires.second (c.gather_back_run.auto.q ∙ part)
    (λ k e h d.
    ap s.means (get_or_default c.gather_back_run.new.q k e d (omega (arith, c.gather_back_run.auto.q)))
    ∙ c.gather_back_run.ensures k d (omega arith)
    ∙ gathered_like s.ops c.args.list.now 0 n _ (λ i. s.means (get_or ps (from + i) d)) _ (λ l. s.means (get_or qs (to + l) d)) c.requires.inside
    (λ j a b. ap s.means (part_get from m j ps d c.requires.first (omega (arith, c.requires.long))))
    (λ l b. ap s.means (part_get to n l qs d c.requires.second b)) k h)

use Rattle.std.proofs.Common.{◌+◌, get_or, ap, ◌∙◌, arith}
use Rattle.std.proofs.lemmas.List.{get_or_default}
use Rattle.shape.proofs.Parts.{part_get, length_part, part_changed}
use Rattle.index.proofs.Backs.{scattered_like}
use Rattle.index.proofs.transposes.scatter_back_part.Goals as goal

pub returns : goal.returns
returns g c =
    let s = g.S.Scalar in
    let ps = c.args.ps.now in
    let qs = c.args.qs.now in
    let from = c.args.from in
    let to = c.args.to in
    let m = c.args.m in
    let n = c.args.n in
    let p = length_part ps from m c.requires.first in
    let q = length_part qs to n c.requires.second in
    let like = λ (d : g.row.S.Denot).
    scattered_like s.ops c.args.list.now 0 m n _ (λ i. s.means (get_or ps (from + i) d)) _ (λ l. s.means (get_or qs (to + l) d)) c.requires.inside (omega (arith, c.requires.long))
    (λ j b. ap s.means (part_get from m j ps d c.requires.first b)) (λ l b. ap s.means (part_get to n l qs d c.requires.second b)) in
    record {
      first = part_changed from m _ ps c.scatter_back_run.new.p c.requires.first (c.scatter_back_run.auto.p ∙ p)
          (λ k e h d.
          ap s.means (get_or_default c.scatter_back_run.new.p k e d (omega (arith, c.scatter_back_run.auto.p)))
          ∙ c.scatter_back_run.ensures.first k d (omega arith) ∙ (like d).first k h);
      second = part_changed to n _ qs c.scatter_back_run.new.q c.requires.second (c.scatter_back_run.auto.q ∙ q)
          (λ k e h d.
          ap s.means (get_or_default c.scatter_back_run.new.q k e d (omega (arith, c.scatter_back_run.auto.q)))
          ∙ c.scatter_back_run.ensures.second k d (omega arith) ∙ (like d).second k h);
    }

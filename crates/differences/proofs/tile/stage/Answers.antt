use Rattle.std.proofs.Common.{◌≡◌, ◌+◌, ◌*◌, ◌<◌, get_or, ap, ◌∙◌, inl, inr, arith}
use lib.Arith.{digits_lt}
use Rattle.std.proofs.lemmas.Bool.{cases_eq}
use Rattle.shape.specs.Shapes.{cell}
use Rattle.differences.proofs.tile.stage.Goals as goal

pub loop-l-preserved : goal.loop-l-preserved
loop-l-preserved g c = λ m r d h n.
    let l = c.loop-l.l in
    let height = c.args.tile.height in
    elim (cases_eq m l) [
      | inl e ↦
          let p : c.start.result + r ≡ cell c.args.t c.args.tile.lane l (c.args.tile.row + r) = omega arith in
          rw e (c.copy_part.ensures.written r d n d ∙ ap (λ z. get_or c.args.ts.now z d) p)
      | inr ne ↦
          let before : m < l = omega arith in
          let q : m * height + r < l * height = digits_lt before n in
          c.copy_part.ensures.kept (m * height + r) d (inl q) ∙ c.loop-l.invariant m r d before n
    ]

use Rattle.shape.proofs.Answered.{on_ok}
use Rattle.std.proofs.Common.{◌≡◌, length, sym, refl, ◌∙◌, ap₂, arith}
use Rattle.scalar.specs.Sums.{at}
use Rattle.scalar.proofs.Stored.{at_read}
use Rattle.vector.specs.Rows.{blend}
use Rattle.state.specs.Memory.{vector_of}
use Rattle.state.proofs.Lanes.{vector_in}
use Rattle.forward.proofs.Families.{zipped}
use Rattle.forward.proofs.vectors.axpy_step.Goals as goal

pub returns : goal.returns
returns g c = λ ds b l.
    let s = g.S.Scalar in
    let t = c.args.t in
    let us = c.args.us.now in
    let vs = c.args.vs.now in
    let ns = c.args.numbers.now in
    let first = at_read s.means s.ops ns 0 c.index-numbers-0.result (omega (arith, c.requires.numbers)) c.index-numbers-0.is in
    let second = at_read s.means s.ops ns 1 c.index-numbers-1.result (omega (arith, c.requires.numbers)) c.index-numbers-1.is in
    let done = zipped s.means s.ops (λ p q. blend s.ops (at s.means s.ops ns 0) p (at s.means s.ops ns 1) q)
    (λ p q v. s.means v ≡ blend s.ops (s.means c.index-numbers-0.result) (s.means p) (s.means c.index-numbers-1.result) (s.means q)) (vector_of t) c.vector-rows.result vs (vector_of t) c.vector-rows.result us c.axpy.new.ys _
    (λ p q v e. e ∙ ap₂ (λ x y. blend s.ops x (s.means p) y (s.means q)) (sym first) (sym second))
    c.vector-rows.ensures c.vector-rows.ensures (vector_in t (length vs) c.requires.second) (vector_in t (length us) c.requires.first) refl refl
    c.axpy.auto.ys c.axpy.ensures.verdict (on_ok c.axpy.result c.axpy.ensures.accepted) in
    record { table = λ j i h k. refl; first = λ i h. done.rows b i l h; second = λ i h. refl }

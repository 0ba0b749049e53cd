use Rattle.shape.proofs.Answered.{on_ok}
use Rattle.std.proofs.Common.{◌≡◌, length, sym, refl, ap, ◌∙◌, arith}
use Rattle.scalar.specs.Sums.{at}
use Rattle.scalar.proofs.Stored.{at_read}
use Rattle.state.specs.Memory.{vector_of}
use Rattle.state.proofs.Lanes.{vector_in}
use Rattle.forward.proofs.Families.{turned}
use Rattle.forward.proofs.vectors.scale_step.Goals as goal

pub returns : goal.returns
returns g c = λ ds vs b l.
    let s = g.S.Scalar in
    let t = c.args.t in
    let us = c.args.us.now in
    let ns = c.args.numbers.now in
    let number = at_read s.means s.ops ns 0 c.index-numbers-0.result (omega (arith, c.requires.numbers)) c.index-numbers-0.is in
    let done = turned s.means s.ops (λ q. s.ops.times q (at s.means s.ops ns 0)) (λ q v. s.means v ≡ s.ops.times (s.means q) (s.means c.index-numbers-0.result))
    (vector_of t) c.vector-rows.result us c.mul_assign.new.ys _ (λ q v e. e ∙ ap (λ x. s.ops.times (s.means q) x) (sym number))
    c.vector-rows.ensures (vector_in t (length us) c.requires.first) c.mul_assign.auto.ys c.mul_assign.ensures.verdict (on_ok c.mul_assign.result c.mul_assign.ensures.accepted) in
    record { table = λ j i h k. refl; first = λ i h. done.rows b i l h; second = λ i h. refl }

use Rattle.shape.proofs.Answered.{on_ok}
use Rattle.std.proofs.Common.{◌≡◌, length, refl, ap}
use Rattle.state.specs.Memory.{vector_of}
use Rattle.state.proofs.Lanes.{vector_in}
use Rattle.forward.proofs.Families.{zipped}
use Rattle.forward.proofs.vectors.copy_step.Goals as goal

pub returns : goal.returns
returns g c = λ ds b l.
    let s = g.S.Scalar in
    let t = c.args.t in
    let us = c.args.us.now in
    let vs = c.args.vs.now in
    let done = zipped s.means s.ops (λ p q. p) (λ p q v. v ≡ p) (vector_of t) c.vector-rows.result us (vector_of t) c.vector-rows.result vs c.copy_from.new.ys _
    (λ p q v e. ap s.means e) c.vector-rows.ensures c.vector-rows.ensures (vector_in t (length us) c.requires.first) (vector_in t (length vs) c.requires.second) refl refl
    c.copy_from.auto.ys c.copy_from.ensures.verdict (on_ok c.copy_from.result c.copy_from.ensures.accepted) in
    record { table = λ j i h k. refl; first = λ i h. refl; second = λ i h. done.rows b i l h }

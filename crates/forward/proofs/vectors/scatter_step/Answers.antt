use Rattle.shape.proofs.Answered.{on_ok}
use Rattle.std.proofs.Common.{length, refl}
use Rattle.state.specs.Memory.{vector_of}
use Rattle.state.proofs.Lanes.{vector_in}
use Rattle.forward.proofs.Routes.{scattered}
use Rattle.forward.proofs.vectors.scatter_step.Goals as goal

pub returns : goal.returns
returns g c = λ ds b l.
    let s = g.S.Scalar in
    let t = c.args.t in
    let us = c.args.us.now in
    let vs = c.args.vs.now in
    let done = scattered s.means s.ops c.args.list.now (vector_of t) c.vector-rows.result us (vector_of t) c.vector-rows.result vs c.scatter.new.ys _
    c.vector-rows.ensures c.vector-rows.ensures (vector_in t (length us) c.requires.first) (vector_in t (length vs) c.requires.second) refl c.requires.long c.requires.inside
    c.scatter.auto.ys c.scatter.ensures.verdict (on_ok c.scatter.result c.scatter.ensures.accepted) in
    record { table = λ j i h k. refl; first = λ i h. refl; second = λ i h. done.rows b i l h }

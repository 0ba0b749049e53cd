use Rattle.shape.proofs.Answered.{on_ok}
use Rattle.std.proofs.Common.{refl}
use Rattle.state.proofs.Lanes.{vector_in}
use Rattle.state.specs.Memory.{vector_of}
use Rattle.backward.proofs.ListMoves.{scattered}
use Rattle.backward.proofs.lists.scatter_back.Goals as goal

pub returns : goal.returns
returns g c =
    let s = g.S.Scalar in
    let call = c.scatter_transpose in
    let both = scattered s.means s.ops _ (vector_of c.args.t) c.args.list.now _ c.args.ps.now c.args.qs.now c.vector-v.ensures (vector_in c.args.t _ c.requires.first) (vector_in c.args.t _ c.requires.second) c.requires.long c.requires.inside call.ensures.verdict
    call.new.ps call.new.qs call.auto.ps call.auto.qs (on_ok call.result call.ensures.accepted) in
    λ es b l. record { table = λ j i h k. refl; first = λ i h. both.p b i l h; second = λ i h. both.q b i l h }

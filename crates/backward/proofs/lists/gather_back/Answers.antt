use Rattle.shape.proofs.Answered.{on_ok}
use Rattle.std.proofs.Common.{refl}
use Rattle.state.proofs.Lanes.{vector_in}
use Rattle.state.specs.Memory.{vector_of}
use Rattle.backward.proofs.Moves.{filled}
use Rattle.backward.proofs.ListMoves.{gathered}
use Rattle.backward.proofs.lists.gather_back.Goals as goal

pub returns : goal.returns
returns g c =
    let s = g.S.Scalar in
    let v = vector_of c.args.t in
    let is = c.vector-v.ensures in
    let ps = c.args.ps.now in
    let qs = c.args.qs.now in
    let call = c.gather_transpose in
    let second = gathered s.means s.ops _ v c.args.list.now _ ps qs is (vector_in c.args.t _ c.requires.first) (vector_in c.args.t _ c.requires.second) c.requires.long c.requires.inside call.ensures.verdict call.new.qs call.auto.qs (on_ok call.result call.ensures.accepted) in
    let first = filled s.means s.ops _ s.ops.zero _ v _ ps c.fill.new.ys c.zero.ensures is (vector_in c.args.t _ c.requires.first) c.fill.auto.ys c.fill.ensures.verdict (on_ok c.fill.result c.fill.ensures.accepted) in
    λ es b l. record { table = λ j i h k. refl; first = λ i h. first.rows b i l h; second = λ i h. second b i l h }

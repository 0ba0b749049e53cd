use Rattle.shape.proofs.Answered.{on_ok}
use Rattle.std.proofs.Common.{refl}
use Rattle.state.proofs.Lanes.{vector_in}
use Rattle.state.specs.Memory.{vector_of}
use Rattle.backward.proofs.Moves.{added, filled}
use Rattle.backward.proofs.vectors.copy_back.Goals as goal

pub returns : goal.returns
returns g c =
    let s = g.S.Scalar in
    let v = vector_of c.args.t in
    let is = c.vector-v.ensures in
    let ps = c.args.ps.now in
    let qs = c.args.qs.now in
    let first = added s.means s.ops _ _ v v _ qs ps c.add_assign.new.ys is is (vector_in c.args.t _ c.requires.second) (vector_in c.args.t _ c.requires.first) refl refl c.add_assign.auto.ys c.add_assign.ensures.verdict (on_ok c.add_assign.result c.add_assign.ensures.accepted) in
    let second = filled s.means s.ops _ s.ops.zero _ v _ qs c.fill.new.ys c.zero.ensures is (vector_in c.args.t _ c.requires.second) c.fill.auto.ys c.fill.ensures.verdict (on_ok c.fill.result c.fill.ensures.accepted) in
    λ es b l. record { table = λ j i h k. refl; first = λ i h. first.rows b i l h; second = λ i h. second.rows b i l h }

use Rattle.shape.proofs.Answered.{on_ok}
use Rattle.std.proofs.Common.{◌≡◌, sym, refl, ap, ◌∙◌, arith}
use Rattle.scalar.specs.Sums.{at}
use Rattle.scalar.proofs.Stored.{at_read}
use Rattle.state.proofs.Lanes.{vector_in}
use Rattle.state.specs.Memory.{vector_of}
use Rattle.backward.proofs.Moves.{rows, scaled, gained}
use Rattle.backward.proofs.vectors.axpy_back.Goals as goal

pub returns : goal.returns
returns g c =
    let s = g.S.Scalar in
    let v = vector_of c.args.t in
    let is = c.vector-v.ensures in
    let ps = c.args.ps.now in
    let qs = c.args.qs.now in
    let numbers = c.args.numbers.now in
    let a = c.index-numbers-0.result in
    let b' = c.index-numbers-1.result in
    let p = rows s.means s.ops v ps in
    let q = rows s.means s.ops v qs in
    let read_a : at s.means s.ops numbers 0 ≡ s.means a = at_read s.means s.ops numbers 0 a (omega (arith, c.requires.numbers)) c.index-numbers-0.is in
    let read-b : at s.means s.ops numbers 1 ≡ s.means b' = at_read s.means s.ops numbers 1 b' (omega (arith, c.requires.numbers)) c.index-numbers-1.is in
    let second = gained s.means s.ops (s.means a) _ _ v v _ ps qs c.gain.new.ys is is (vector_in c.args.t _ c.requires.first) (vector_in c.args.t _ c.requires.second) refl refl c.gain.auto.ys c.gain.ensures.verdict (on_ok c.gain.result c.gain.ensures.accepted) in
    let first = scaled s.means s.ops (s.means b') _ v _ ps c.mul_assign.new.ys is (vector_in c.args.t _ c.requires.first) c.mul_assign.auto.ys c.mul_assign.ensures.verdict (on_ok c.mul_assign.result c.mul_assign.ensures.accepted) in
    λ es b l. record {
      table = λ j i h k. refl;
      first = λ i h. first.rows b i l h ∙ ap (λ z. s.ops.times (p b i) z) (sym read-b);
      second = λ i h. second.rows b i l h ∙ ap (λ z. s.ops.plus (q b i) (s.ops.times z (p b i))) (sym read_a);
    }

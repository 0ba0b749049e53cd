use Rattle.shape.proofs.Answered.{on_ok}
use Rattle.std.proofs.Common.{◌≡◌, sym, refl, ap, ◌∙◌, arith}
use Rattle.scalar.specs.Sums.{at}
use Rattle.scalar.proofs.Stored.{at_read}
use Rattle.state.proofs.Lanes.{vector_in}
use Rattle.state.specs.Memory.{vector_of}
use Rattle.backward.proofs.Moves.{rows, scaled}
use Rattle.backward.proofs.vectors.scale_back.Goals as goal

pub returns : goal.returns
returns g c =
    let s = g.S.Scalar in
    let v = vector_of c.args.t in
    let ps = c.args.ps.now in
    let a = c.index-numbers-0.result in
    let read : at s.means s.ops c.args.numbers.now 0 ≡ s.means a = at_read s.means s.ops c.args.numbers.now 0 a (omega (arith, c.requires.numbers)) c.index-numbers-0.is in
    let first = scaled s.means s.ops (s.means a) _ v _ ps c.mul_assign.new.ys c.vector-v.ensures (vector_in c.args.t _ c.requires.first) c.mul_assign.auto.ys c.mul_assign.ensures.verdict (on_ok c.mul_assign.result c.mul_assign.ensures.accepted) in
    λ es qs b l. record {
      table = λ j i h k. refl;
      first = λ i h. first.rows b i l h ∙ ap (λ z. s.ops.times (rows s.means s.ops v ps b i) z) (sym read);
      second = λ i h. refl;
    }

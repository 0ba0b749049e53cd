use Rattle.shape.proofs.Answered.{on_ok}
use Rattle.std.proofs.Common.{◌≡◌, ◌+◌, ◌-◌, sym, refl, ap, ◌∙◌, arith}
use Rattle.scalar.specs.Sums.{at}
use Rattle.scalar.proofs.Stored.{at_read}
use Rattle.product.specs.Rows.{spread}
use Rattle.product.specs.Results.{row_of}
use Rattle.state.proofs.Lanes.{vector_in}
use Rattle.state.specs.Memory.{vector_of}
use Rattle.backward.proofs.Moves.{rows, scaled}
use Rattle.backward.proofs.TableMoves.{spread_lane}
use Rattle.state.proofs.Beyond.{columns_kept}
use Rattle.backward.proofs.tables.sum_columns_back.Goals as goal

pub returns-clause-back : goal.returns-clause-back
returns-clause-back g c =
    let s = g.S.Scalar in
    let t = c.args.t in
    let v = vector_of t in
    let is = c.vector-v.ensures in
    let es = c.args.es.now in
    let ps = c.args.ps.now in
    let numbers = c.args.numbers.now in
    let a = c.index-numbers-0.result in
    let b' = c.index-numbers-1.result in
    let p = rows s.means s.ops v ps in
    let read_a : at s.means s.ops numbers 0 ≡ s.means a = at_read s.means s.ops numbers 0 a (omega (arith, c.requires.numbers)) c.index-numbers-0.is in
    let read-b : at s.means s.ops numbers 1 ≡ s.means b' = at_read s.means s.ops numbers 1 b' (omega (arith, c.requires.numbers)) c.index-numbers-1.is in
    let call = c.ger_cols in
    let table = spread_lane s.means s.ops t es call.new.ts c.requires.table call.auto.ts _ ps numbers _ c.args.start c.args.end (s.means a) is (vector_in c.args.t _ c.requires.first) c.requires.within c.requires.ordered c.requires.few c.requires.numbers call.ensures.verdict (on_ok call.result call.ensures.accepted) in
    let first = scaled s.means s.ops (s.means b') _ v _ ps c.mul_assign.new.ys is (vector_in c.args.t _ c.requires.first) c.mul_assign.auto.ys c.mul_assign.ensures.verdict (on_ok c.mul_assign.result c.mul_assign.ensures.accepted) in
    λ qs b l. record {
      table = λ j i h k.
          table b j i (record { lane = l; col = h; row = k })
          ∙ ap (λ z. spread s.ops (row_of s.means s.ops t es b i) c.args.start (c.args.end - c.args.start) z (λ m. at s.means s.ops numbers (2 + m)) (p b i) j) (sym read_a);
      first = λ i h. first.rows b i l h ∙ ap (λ z. s.ops.times (p b i) z) (sym read-b);
      second = λ i h. refl;
    }

pub returns-clause-kept : goal.returns-clause-kept
returns-clause-kept g c =
    let call = c.ger_cols in
    columns_kept c.args.t c.args.start (c.args.end - c.args.start) c.args.es.now call.new.ts call.result (λ done. done.kept) (λ left. left) call.ensures.accepted call.ensures.refused

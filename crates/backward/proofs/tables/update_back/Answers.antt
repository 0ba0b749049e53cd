use Rattle.shape.proofs.Answered.{on_ok}
use Rattle.std.proofs.Common.{◌+◌, length, refl, ap, ◌∙◌}
use Rattle.shape.specs.Shapes.{Lawful}
use Rattle.state.proofs.Lanes.{vector_in}
use Rattle.state.specs.Memory.{vector_of}
use Rattle.backward.proofs.Moves.{rows, added}
use Rattle.backward.proofs.TableMoves.{transposed_lane}
use Rattle.state.proofs.Beyond.{columns_kept}
use Rattle.backward.proofs.tables.update_back.Goals as goal

pub returns-clause-back : goal.returns-clause-back
returns-clause-back g c =
    let s = g.S.Scalar in
    let t = c.args.t in
    let v = vector_of t in
    let is = c.vector-v.ensures in
    let es = c.args.es.now in
    let ps = c.args.ps.now in
    let call = c.update_backward_diff_transpose in
    let ws = call.new.ds in
    let held : Lawful v (length ws) = rw call.auto.ds (vector_in c.args.t _ c.requires.sum) in
    let both = transposed_lane s.means s.ops t es call.new.ts c.requires.table call.auto.ts _ c.args.ws.now ws _ c.args.order (length c.args.work.now) is (vector_in c.args.t _ c.requires.sum) call.auto.ds c.requires.within c.requires.few c.requires.room call.ensures.verdict (on_ok call.result call.ensures.accepted) in
    let first = added s.means s.ops _ _ v v _ ws ps c.add_assign.new.ys is is held (vector_in c.args.t _ c.requires.first) refl refl c.add_assign.auto.ys c.add_assign.ensures.verdict (on_ok c.add_assign.result c.add_assign.ensures.accepted) in
    λ qs b l. record {
      table = λ j i h k. both.columns b j i (record { lane = l; col = h; row = k });
      first = λ i h. first.rows b i l h ∙ ap (λ z. s.ops.plus (rows s.means s.ops v ps b i) z) (both.sums b i l h);
      second = λ i h. refl;
    }

pub returns-clause-kept : goal.returns-clause-kept
returns-clause-kept g c =
    let call = c.update_backward_diff_transpose in
    columns_kept c.args.t 0 (c.args.order + 3) c.args.es.now call.new.ts call.result (λ done. done.columns.kept) (λ left. left.0) call.ensures.accepted call.ensures.refused

use Rattle.shape.proofs.Answered.{on_ok}
use Rattle.std.proofs.Common.{◌≡◌, ◌+◌, ◌-◌, length, ap, ◌∙◌, arith}
use Rattle.scalar.specs.Sums.{at}
use Rattle.scalar.proofs.Stored.{at_is}
use Rattle.shape.specs.Shapes.{cell}
use Rattle.shape.specs.Changes.{InColumn}
use Rattle.shape.proofs.Cells.{changed_as}
use Rattle.product.specs.Rows.{summed}
use Rattle.differences.specs.Transposes.{TransposeLawful, row_for}
use Rattle.differences.proofs.Acceptance.{sum_accepted}
use Rattle.differences.proofs.TransposeLaws.{summed_ones}
use Rattle.differences.proofs.total.sum_columns.Goals as goal

pub returns : goal.returns
returns g c =
    let s = g.S.Scalar in
    let t = c.args.t in
    let d = c.args.d in
    let k = c.args.order in
    let ts = c.args.ts.now in
    let ds = c.args.ds.now in
    let work = c.fill_ones.new.work in
    let law : TransposeLawful t (length ts) k d (length ds) (length work) = rw c.fill_ones.auto.work c.requires in
    let done = (on_ok c.gemv_cols.result c.gemv_cols.ensures.accepted) (c.gemv_cols.ensures.verdict ∙ sum_accepted t (length ts) k d (length ds) (length work) law) in
    changed_as d.of (InColumn d.col) (InColumn d.col) _ _ ds c.gemv_cols.new.ys (λ b j i w h. h) (λ b j i w h. h)
    (λ b j i v w h q.
    let x = row_for s.means s.ops t ts d b i in
    let n : k + 3 - 0 ≡ k + 3 = omega arith in
    let old = at s.means s.ops ds (cell d.of b j i) in
    q ∙ ap (λ z. summed s.ops x 0 z (s.means c.one.result) (s.means c.zero.result) (λ l. at s.means s.ops work l) old) n
    ∙ summed_ones s.ops g.met.S.Scalar.zero_is_zero x (k + 3) (s.means c.one.result) (s.means c.zero.result) (λ l. at s.means s.ops work l) old (omega arith) c.one.ensures c.zero.ensures
    (λ l m. at_is s.means s.ops work l _ (omega (arith, law.few, law.room)) (λ e. c.fill_ones.ensures l e (omega (arith, c.requires.few, c.requires.room)))))
    done

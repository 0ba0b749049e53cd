use Rattle.shape.proofs.Answered.{on_ok}
use Rattle.std.proofs.Common.{◌≡◌, ◌+◌, ◌-◌, length, take, drop, sym, refl, ap, ◌∙◌, subst, ap₂, arith}
use Rattle.std.proofs.lemmas.List.{take_rest, length-drop}
use Rattle.scalar.specs.Sums.{at}
use Rattle.scalar.proofs.Stored.{at_read}
use Rattle.shape.specs.Refusals.{first_of}
use Rattle.shape.specs.declared.operand.Column.{Column}
use Rattle.product.specs.Rows.{summed}
use Rattle.product.specs.Tests.{gemv_cols_tests}
use Rattle.product.specs.Results.{row_of, GemvCols}
use Rattle.shape.specs.Shapes.{cell}
use Rattle.state.specs.Memory.{vector_of}
use Rattle.forward.proofs.Passes.{gemv_cols_passes}
use Rattle.state.proofs.Lanes.{vector_in}
use Rattle.forward.proofs.Columns.{at_rest, columns_summed}
use Rattle.forward.proofs.vectors.sum_col_step.Goals as goal

pub returns : goal.returns
returns g c = λ vs b l.
    let s = g.S.Scalar in
    let t = c.args.t in
    let start = c.args.start in
    let end = c.args.end in
    let ds = c.args.ds.now in
    let us = c.args.us.now in
    let ns = c.args.numbers.now in
    let xs = take (length ns - 2) (drop 2 ns) in
    let long : length xs ≡ length ns - 2 = ap length (take_rest ns 2) ∙ length-drop 2 ns in
    let x = s.means c.index-numbers-0.result in
    let y = s.means c.index-numbers-1.result in
    let first = at_read s.means s.ops ns 0 c.index-numbers-0.result (omega (arith, c.requires.numbers)) c.index-numbers-0.is in
    let second = at_read s.means s.ops ns 1 c.index-numbers-1.result (omega (arith, c.requires.numbers)) c.index-numbers-1.is in
    let law = vector_in t (length us) c.requires.first in
    let passes = gemv_cols_passes t (length ds) start end (length xs) (vector_of t) (length us) c.requires.table law c.requires.order c.requires.within c.requires.few (omega (arith, c.requires.numbers)) refl refl in
    let named = ap (λ v. first_of (gemv_cols_tests t (length ds) start end (length xs) v (length us))) c.vector-rows.ensures in
    let done = columns_summed s.means s.ops x y t ds start (end - start) xs (λ m. at s.means s.ops ns (2 + m)) (vector_of t) us c.gemv_cols.new.ys law refl c.gemv_cols.auto.ys
    (λ m h. at_rest s.means s.ops ns 2 m)
    (subst (λ (v : Column). GemvCols s.means s.ops (summed s.ops) x t ds start (end - start) xs y v us c.gemv_cols.new.ys) c.vector-rows.ensures
    ((on_ok c.gemv_cols.result c.gemv_cols.ensures.accepted) (c.gemv_cols.ensures.verdict ∙ named ∙ passes))) in
    record {
      table = λ j i h k. refl;
      first = λ i h.
          done.rows b i l h
          ∙ ap₂ (λ p q. summed s.ops (row_of s.means s.ops t ds b i) start (end - start) p q (λ m. at s.means s.ops ns (2 + m)) (at s.means s.ops us (cell (vector_of t).of b 0 i))) (sym first) (sym second);
      second = λ i h. refl;
    }

use Rattle.shape.proofs.Answered.{on_ok}
use Rattle.std.proofs.Common.{◌≡◌, length, refl, ap}
use Rattle.shape.specs.Shapes.{column_of}
use Rattle.state.specs.Memory.{vector_of}
use Rattle.state.proofs.Lanes.{vector_in}
use Rattle.forward.proofs.Families.{zipped, column_put}
use Rattle.state.proofs.Beyond.{column_kept}
use Rattle.forward.proofs.tables.set_col_step.Goals as goal

pub returns-clause-forward : goal.returns-clause-forward
returns-clause-forward g c = λ vs b l.
    let s = g.S.Scalar in
    let t = c.args.t in
    let ds = c.args.ds.now in
    let us = c.args.us.now in
    let done = zipped s.means s.ops (λ p q. p) (λ p q v. v ≡ p) (vector_of t) c.vector-rows.result us (column_of t c.args.column) c.column.result ds c.copy_from.new.ys _
    (λ p q v e. ap s.means e) c.vector-rows.ensures c.column.ensures (vector_in t (length us) c.requires.first) (record { fits = c.requires.table; within = c.requires.within }) refl refl
    c.copy_from.auto.ys c.copy_from.ensures.verdict (on_ok c.copy_from.result c.copy_from.ensures.accepted) in
    record {
      table = λ j i h k. column_put s.means s.ops t c.args.column _ ds c.copy_from.new.ys done b j i (record { lane = l; col = h; row = k });
      first = λ i h. refl;
      second = λ i h. refl;
    }

pub returns-clause-kept : goal.returns-clause-kept
returns-clause-kept g c = column_kept c.args.t c.args.column c.column.result _ c.args.ds.now c.copy_from.new.ys c.copy_from.result c.column.ensures c.copy_from.ensures.accepted c.copy_from.ensures.refused

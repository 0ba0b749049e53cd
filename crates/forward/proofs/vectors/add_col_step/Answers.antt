use Rattle.shape.proofs.Answered.{on_ok}
use Rattle.std.proofs.Common.{◌≡◌, length, refl}
use Rattle.shape.specs.Shapes.{column_of}
use Rattle.state.specs.Memory.{vector_of}
use Rattle.state.proofs.Lanes.{vector_in}
use Rattle.forward.proofs.Families.{zipped}
use Rattle.forward.proofs.vectors.add_col_step.Goals as goal

pub returns : goal.returns
returns g c = λ vs b l.
    let s = g.S.Scalar in
    let t = c.args.t in
    let ds = c.args.ds.now in
    let us = c.args.us.now in
    let done = zipped s.means s.ops (λ p q. s.ops.plus q p) (λ p q v. s.means v ≡ s.ops.plus (s.means q) (s.means p)) (column_of t c.args.column) c.column.result ds (vector_of t) c.vector-rows.result us c.add_assign.new.ys _
    (λ p q v e. e) c.column.ensures c.vector-rows.ensures (record { fits = c.requires.table; within = c.requires.within }) (vector_in t (length us) c.requires.first) refl refl
    c.add_assign.auto.ys c.add_assign.ensures.verdict (on_ok c.add_assign.result c.add_assign.ensures.accepted) in
    record { table = λ j i h k. refl; first = λ i h. done.rows b i l h; second = λ i h. refl }

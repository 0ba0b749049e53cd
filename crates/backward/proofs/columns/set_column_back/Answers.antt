use Rattle.shape.proofs.Answered.{on_ok}
use Rattle.std.proofs.Common.{length, refl}
use Rattle.shape.specs.Shapes.{column_of, Lawful}
use Rattle.state.specs.Memory.{vector_of}
use Rattle.state.proofs.Lanes.{vector_in}
use Rattle.forward.proofs.Families.{column_put}
use Rattle.backward.proofs.Moves.{added, filled}
use Rattle.state.proofs.Beyond.{column_kept}
use Rattle.backward.proofs.columns.set_column_back.Goals as goal

pub returns-clause-back : goal.returns-clause-back
returns-clause-back g c =
    let s = g.S.Scalar in
    let t = c.args.t in
    let es = c.args.es.now in
    let ps = c.args.ps.now in
    let column = column_of t c.args.j in
    let law : Lawful column (length es) = record { fits = c.requires.table; within = c.requires.within } in
    let first = added s.means s.ops _ _ column (vector_of t) _ es ps c.add_assign.new.ys c.column-column.ensures c.vector-v.ensures law (vector_in c.args.t _ c.requires.first) refl refl c.add_assign.auto.ys c.add_assign.ensures.verdict (on_ok c.add_assign.result c.add_assign.ensures.accepted) in
    let cleared = filled s.means s.ops _ s.ops.zero _ column _ es c.fill.new.ys c.zero.ensures c.column-column.ensures law c.fill.auto.ys c.fill.ensures.verdict (on_ok c.fill.result c.fill.ensures.accepted) in
    λ qs b l. record {
      table = λ k i h m. column_put s.means s.ops t c.args.j _ es c.fill.new.ys cleared b k i (record { lane = l; col = h; row = m });
      first = λ i h. first.rows b i l h;
      second = λ i h. refl;
    }

pub returns-clause-kept : goal.returns-clause-kept
returns-clause-kept g c = column_kept c.args.t c.args.j c.column-column.result _ c.args.es.now c.fill.new.ys c.fill.result c.column-column.ensures c.fill.ensures.accepted c.fill.ensures.refused

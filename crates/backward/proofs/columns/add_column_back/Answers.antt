use Rattle.shape.proofs.Answered.{on_ok}
use Rattle.std.proofs.Common.{refl}
use Rattle.shape.specs.Shapes.{column_of}
use Rattle.state.specs.Memory.{vector_of}
use Rattle.state.proofs.Lanes.{vector_in}
use Rattle.forward.proofs.Families.{column_put}
use Rattle.backward.proofs.Moves.{added}
use Rattle.state.proofs.Beyond.{column_kept}
use Rattle.backward.proofs.columns.add_column_back.Goals as goal

pub returns-clause-back : goal.returns-clause-back
returns-clause-back g c =
    let s = g.S.Scalar in
    let t = c.args.t in
    let es = c.args.es.now in
    let column = column_of t c.args.j in
    let done = added s.means s.ops _ _ (vector_of t) column _ c.args.ps.now es c.add_assign.new.ys c.vector-v.ensures c.column.ensures (vector_in c.args.t _ c.requires.first)
    (record { fits = c.requires.table; within = c.requires.within }) refl refl c.add_assign.auto.ys c.add_assign.ensures.verdict (on_ok c.add_assign.result c.add_assign.ensures.accepted) in
    λ qs b l. record {
      table = λ k i h m. column_put s.means s.ops t c.args.j _ es c.add_assign.new.ys done b k i (record { lane = l; col = h; row = m });
      first = λ i h. refl;
      second = λ i h. refl;
    }

pub returns-clause-kept : goal.returns-clause-kept
returns-clause-kept g c = column_kept c.args.t c.args.j c.column.result _ c.args.es.now c.add_assign.new.ys c.add_assign.result c.column.ensures c.add_assign.ensures.accepted c.add_assign.ensures.refused

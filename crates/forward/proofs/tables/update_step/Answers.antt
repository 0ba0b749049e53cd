use Rattle.shape.proofs.Answered.{on_ok}
use Rattle.std.proofs.Common.{◌+◌, length, refl, ap, ◌∙◌}
use Rattle.shape.specs.Refusals.{first_of}
use Rattle.differences.specs.Updates.{update_tests}
use Rattle.state.specs.Memory.{vector_of}
use Rattle.forward.proofs.Passes.{update_passes}
use Rattle.state.proofs.Lanes.{vector_in}
use Rattle.forward.proofs.Columns.{columns_updated}
use Rattle.state.proofs.Beyond.{columns_kept}
use Rattle.forward.proofs.tables.update_step.Goals as goal

pub returns-clause-forward : goal.returns-clause-forward
returns-clause-forward g c = λ vs b l.
    let s = g.S.Scalar in
    let t = c.args.t in
    let n = c.args.order in
    let ds = c.args.ds.now in
    let us = c.args.us.now in
    let passes = update_passes t (length ds) n (vector_of t) (length us) c.requires.table (vector_in t (length us) c.requires.first) c.requires.within refl refl in
    let named = ap (λ v. first_of (update_tests t (length ds) n v (length us))) c.vector-rows.ensures in
    let done = columns_updated s.means s.ops t n (vector_of t) c.vector-rows.result us ds c.update_backward_diff.new.ts c.vector-rows.ensures refl c.requires.table c.update_backward_diff.auto.ts
    ((on_ok c.update_backward_diff.result c.update_backward_diff.ensures.accepted) (c.update_backward_diff.ensures.verdict ∙ named ∙ passes)) in
    record { table = λ j i h k. done b j i (record { lane = l; col = h; row = k }); first = λ i h. refl; second = λ i h. refl }

pub returns-clause-kept : goal.returns-clause-kept
returns-clause-kept g c =
    let call = c.update_backward_diff in
    columns_kept c.args.t 0 (c.args.order + 3) c.args.ds.now call.new.ts call.result (λ done. done.kept) (λ left. left) call.ensures.accepted call.ensures.refused

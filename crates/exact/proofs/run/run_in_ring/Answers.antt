use Rattle.std.proofs.Common.{◌≡◌, sym, ap, ◌∙◌, subst}
use Rattle.shape.proofs.Answered.{on_ok}
use Rattle.state.specs.Memory.{held, shown, lengths, Holds}
use Rattle.exact.proofs.Clears.{run_clear, pairing_clear}
use Rattle.exact.proofs.Solving.{lengths_stored, steps_stored, ran_filled}
use Rattle.exact.proofs.run.run_in_ring.Goals as goal

pub returns-clause-ran : goal.returns-clause-ran
returns-clause-ran g c =
    let x = c.args.task in
    let t = x.shape in
    let means = g.S.Scalar.means in
    let stored = g.S.Entry.stored in
    let ok = c.requires.workable in
    -- what is lent holds its shape at each call
    let ls : lengths (held c.fill_parts.new.to) ≡ lengths (shown x.state) = c.fill_parts.ensures.lent.sizes ∙ c.requires.state in
    let lw : lengths (held c.fill_parts-2.new.to) ≡ lengths (shown x.weights) = c.fill_parts-2.ensures.lent.sizes ∙ c.requires.weights in
    let hs = subst (Holds t) (sym ls) ok.state in
    let hw = subst (Holds t) (sym lw) ok.weights in
    let hg = subst (Holds t) (sym c.requires.given) ok.weights in
    let run = c.run_script.ensures.verdict ∙ run_clear t _ _ _ _ _ _ hs hw hg.first c.requires.work ok.answers in
    let l1 = ap lengths c.shared.ensures ∙ c.run_script.ensures.lent_state.sizes ∙ ls in
    let l2 = ap lengths (c.shared-2.ensures ∙ c.fill_parts-3.ensures.filled) ∙ lengths_stored stored (shown x.weights) in
    let l3 = ap lengths (c.shared-3.ensures ∙ c.fill_parts-4.ensures.filled) ∙ lengths_stored stored (shown x.state) in
    let l4 = ap lengths c.shared-4.ensures ∙ c.run_script.ensures.lent_weights.sizes ∙ lw in
    let after = c.pairings.ensures.verdict ∙ pairing_clear t _ _ _ (subst (Holds t) (sym l1) ok.state) (subst (Holds t) (sym l2) ok.weights) c.requires.ends in
    let before = c.pairings-2.ensures.verdict ∙ pairing_clear t _ _ _ (subst (Holds t) (sym l3) ok.state) (subst (Holds t) (sym l4) ok.weights) c.requires.beginnings in
    ran_filled means _ t _ _ _ _ _ _ _ _ _ _ _ _ _ _ _ _
    (steps_stored means stored x.script c.fill.new.to c.fill.ensures)
    c.fill_parts.ensures.filled c.fill_parts-2.ensures.filled
    c.shared.ensures (c.shared-2.ensures ∙ c.fill_parts-3.ensures.filled)
    (c.shared-3.ensures ∙ c.fill_parts-4.ensures.filled) c.shared-4.ensures
    (on_ok c.run_script.result c.run_script.ensures.forward run)
    (on_ok c.run_script.result c.run_script.ensures.back run)
    (on_ok c.pairings.result c.pairings.ensures.accepted after)
    (on_ok c.pairings-2.result c.pairings-2.ensures.accepted before)

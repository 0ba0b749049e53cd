use Rattle.std.proofs.Common.{◌+◌, ◌≤◌, length, rules, ap, ap₂, ◌∙◌, arith}
use Rattle.scalar.specs.Sums.{at}
use Rattle.shape.proofs.Parts.{length_part, part_changed}
use Rattle.scalar.proofs.Stored.{at_part}
use Rattle.product.proofs.Entries.{at_front, at_after}
use Rattle.differences.proofs.Runs.{run_front}
use Rattle.differences.proofs.update.gain_run.Goals as goal

pub returns : goal.returns
returns g c =
    let s = g.S.Scalar in
    let ts = c.args.ts.now in
    let to = c.args.to in
    let from = c.args.from in
    let n = c.args.rows in
    let left = c.split_at_mut-left.result.0.now in
    let right = c.split_at_mut-left.result.1.now in
    let split = c.split_at_mut-left.ensures in
    let fits : to + n ≤ length left = omega (arith, c.requires.apart, split.front_len) in
    let long = length_part left to n fits in
    run_front to n _ ts left _ right split.value fits (search rules)
    (part_changed to n _ left c.loop-i.v-items fits (c.loop-i.auto.v-items ∙ long)
    (λ i d h.
    c.loop-i.invariant.done i d (omega arith)
    ∙ ap₂ s.ops.plus
    (at_part s.means s.ops to n i left fits h ∙ ap (λ z. at s.means s.ops z (to + i)) split.front ∙ at_front s.means s.ops from (to + i) ts (omega arith) (omega arith))
    (ap (λ z. at s.means s.ops z i) split.back ∙ at_after s.means s.ops from i ts (omega arith))))

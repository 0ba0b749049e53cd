use Rattle.std.proofs.Common.{◌≡◌, ℕ, ◌+◌, ◌<◌, List, length, drop, sym, ap, ◌∙◌, subst, arith, length-drop, rules}
use Rattle.reader.specs.Judged.{Judged}
use Rattle.reader.specs.Held.{Held}
use Rattle.reader.proofs.FirstFaults.{first_fault}
use Rattle.reader.proofs.Reading.{ReadSoFar, next, wrong, behind, judged_is}
use Rattle.reader.proofs.lines.read.Goals as goal

pub returns-in-Err-clause-fault : goal.returns-in-Err-clause-fault
returns-in-Err-clause-fault c =
    let s = c.loop-rest.invariant.0 in
    let some : 0 < length c.loop-rest.rest.now = search rules in
    let w = wrong c.args.text.now c.loop-rest.rest.now c.loop-rest.count c.bytes_before-k.result c.in-Err.refusal c.loop-rest.into c.line.new.self s some c.bytes_before-k.ensures.is (c.in-Err.ensures s.ls s.held s.counted) in
    sym (ap (λ (j : Judged). j.fault) (judged_is c.args.text.now c.if-text-gt-MAX_BYTES.false ∙ w))

pub returns-in-Err-clause-held : goal.returns-in-Err-clause-held
returns-in-Err-clause-held c =
    let s = c.loop-rest.invariant.0 in
    let some : 0 < length c.loop-rest.rest.now = search rules in
    let f = c.in-Err.ensures s.ls s.held s.counted in
    let w = wrong c.args.text.now c.loop-rest.rest.now c.loop-rest.count c.bytes_before-k.result c.in-Err.refusal c.loop-rest.into c.line.new.self s some c.bytes_before-k.ensures.is f in
    subst (λ (j : Judged). Held j.lawful c.line.new.self) (sym (judged_is c.args.text.now c.if-text-gt-MAX_BYTES.false ∙ w)) f.held

pub loop-rest-preserved : goal.loop-rest-preserved
loop-rest-preserved c =
    let s = c.loop-rest.invariant.0 in
    let some : 0 < length c.loop-rest.rest.now = search rules in
    let e : c.behind_first-rest.result.now ≡ drop (c.bytes_before-k.result + 1) c.loop-rest.rest.now = behind c.loop-rest.rest.now _ c.bytes_before-k.result c.behind_first-rest.ensures in
    let n = next c.args.text.now c.loop-rest.rest.now c.loop-rest.count c.bytes_before-k.result c.in_default.field-0 c.loop-rest.into c.line.new.self s some c.bytes_before-k.ensures.is (c.in_default.ensures s.ls s.held s.counted) in (
      subst (λ (t : List ℕ). ReadSoFar c.args.text.now t (c.loop-rest.count + 1) c.line.new.self) (sym e) n,
      omega (arith, ap length e, length-drop (c.bytes_before-k.result + 1) c.loop-rest.rest.now),
    )

pub returns-in-Err-clause-first : goal.returns-in-Err-clause-first
returns-in-Err-clause-first c le = first_fault c.args.text.now le

pub returns-then-count-lt2-clause-first : goal.returns-then-count-lt2-clause-first
returns-then-count-lt2-clause-first c le = first_fault c.args.text.now le

pub returns-clause-first : goal.returns-clause-first
returns-clause-first c le = first_fault c.args.text.now le

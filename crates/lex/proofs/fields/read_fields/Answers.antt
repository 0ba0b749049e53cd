use Rattle.std.proofs.Common.{◌≡◌, ◌+◌, ◌<◌, length, get_or, take, set, sym, refl, ap, ◌∙◌, arith, rules}
use Rattle.std.proofs.lemmas.List.{take-set-le}
use Rattle.lex.proofs.Parts.{no_more, none_front}
use Rattle.lex.proofs.Progress.{start, bad_at, next_at, done, empty}
use Rattle.lex.proofs.fields.read_fields.Goals as goal
use Rattle.lex.proofs.fields.read_fields.Goals.{else-loop-n-test, then-loop-n-test+in_default, then-loop-n-test+in_default-2, then-n-room, else-n-room}

pub loop-n-init : goal.loop-n-init
loop-n-init g c = (start _ _ _ _ _ c.args.rest.now refl, omega arith, omega arith, refl, refl)

pub returns-in_err-x : goal.returns-in_err-x
returns-in_err-x g c =
    let h : 0 < length c.loop-n.left.now = search rules in
    let m : get_or c.loop-n.left.now 0 0 ≡ 9 = search rules in
    rw c.from_residual.ensures (record { fields = bad_at _ _ _ _ _ c.loop-n.to c.loop-n.n c.loop-n.left.now c.bytes_before-k.result c.loop-n.invariant.0 c.loop-n-test.true h m c.bytes_before-k.ensures.is (sym c.parse.ensures ∙ c.in_err-x.was); before = c.loop-n.invariant.4 })

pub loop-n-preserved : goal.loop-n-preserved
loop-n-preserved g c =
    let h : 0 < length c.loop-n.left.now = search rules in
    let m : get_or c.loop-n.left.now 0 0 ≡ 9 = search rules in
    let wrote : c.args.at + c.loop-n.n < length c.args.to.now → c.if-n-room.to ≡ set c.loop-n.to (c.args.at + c.loop-n.n) c.in_ok-x.x =
    λ lt. elim c.if-n-room.branch [ then-n-room w ↦ w.to-is | else-n-room w ↦ absurd (omega (arith, w.if-n-room.false, c.loop-n.invariant.3)) ] in
    let kept : take c.args.at c.if-n-room.to ≡ take c.args.at c.args.to.now =
    elim c.if-n-room.branch [ then-n-room w ↦ ap (take c.args.at) w.to-is ∙ take-set-le c.args.at c.loop-n.to (c.args.at + c.loop-n.n) c.in_ok-x.x (omega arith) ∙ c.loop-n.invariant.4 | else-n-room w ↦ ap (take c.args.at) w.to-is ∙ c.loop-n.invariant.4 ] in (
      next_at _ _ _ _ c.args.at c.loop-n.to c.if-n-room.to c.loop-n.n c.loop-n.left.now c.bytes_before-k.result c.in_ok-x.x c.loop-n.invariant.0 c.loop-n-test.true h m c.bytes_before-k.ensures.is (sym c.parse.ensures ∙ c.in_ok-x.was) wrote,
      search rules,
      search rules,
      search rules,
      kept,
    )

pub returns : goal.returns
returns g c = record {
  fields =
      elim c.loop-n-test.branch [
        | else-loop-n-test w ↦ done _ _ _ _ _ c.loop-n.to c.loop-n.n c.loop-n.left.now c.loop-n.invariant.0 w.loop-n-test.false c.loop-n.invariant.2
        | then-loop-n-test+in_default w ↦ empty _ _ _ _ _ c.loop-n.to c.loop-n.n c.loop-n.left.now c.loop-n.invariant.0 (no_more c.loop-n.left.now (none_front c.loop-n.left.now (search rules)))
        | then-loop-n-test+in_default-2 w ↦ empty _ _ _ _ _ c.loop-n.to c.loop-n.n c.loop-n.left.now c.loop-n.invariant.0 (no_more c.loop-n.left.now (search rules))
      ];
  before = c.loop-n.invariant.4;
}

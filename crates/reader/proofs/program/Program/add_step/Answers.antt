use Rattle.std.proofs.Common.{◌+◌, ◌<◌, ◌≤◌, ◌⊎◌, length, refl, inl, inr, arith, rules}
use Rattle.reader.proofs.Holding.{Long, too_much, fine, held_step}
use Rattle.reader.proofs.program.Program.add_step.Goals as goal
use Rattle.reader.proofs.program.Program.add_step.Goals.{then-self-ge-MAX_STEPS-via-then-self-ge-MAX_STEPS, then-self-ge-MAX_STEPS-via-else-self-ge-MAX_STEPS+then-number_count-self, then-self-ge-MAX_STEPS-via-else-self-ge-MAX_STEPS+else-number_count-self+then-list_count-self}

pub returns-then-self-ge-MAX_STEPS : goal.returns-then-self-ge-MAX_STEPS
returns-then-self-ge-MAX_STEPS c ls ns is h l a =
    let p = c.args.self.now in
    let two : 2 ≤ length ls = omega arith in
    let long : Long p = record { steps = search rules; numbers = search rules; indices = search rules } in
    let over : (64 ≤ p.taken) ⊎ ((1024 < p.used + length ns) ⊎ (1024 < p.listed + length is)) =
    elim c.then-self-ge-MAX_STEPS.branch [
      | then-self-ge-MAX_STEPS-via-then-self-ge-MAX_STEPS w ↦ inl w.if-self-ge-MAX_STEPS.true
      | then-self-ge-MAX_STEPS-via-else-self-ge-MAX_STEPS+then-number_count-self w ↦ inr (inl (omega (arith, w.if-number_count-self.true, a.number_count_is)))
      | then-self-ge-MAX_STEPS-via-else-self-ge-MAX_STEPS+else-number_count-self+then-list_count-self w ↦ inr (inr (omega (arith, w.if-list_count-self.true, a.list_count_is)))
    ] in
    record { number = too_much ls p h long c.args.kind ns is two over; held = h }

pub returns : goal.returns
returns c ls ns is h l a =
    let p = c.args.self.now in
    let two : 2 ≤ length ls = omega arith in
    let long : Long p = record { steps = search rules; numbers = search rules; indices = search rules } in
    let x : p.taken < 64 = omega arith in
    let y : p.used + c.args.number_count ≤ 1024 = omega arith in
    let z : p.listed + c.args.list_count ≤ 1024 = omega arith in
    record {
      number = fine ls p h long c.args.kind ns is two x (omega (arith, a.number_count_is)) (omega (arith, a.list_count_is));
      held = held_step ls p h long c.args.kind ns is two _ c.args.number_count c.args.list_count a x y z refl refl refl refl refl refl refl refl refl;
    }

-- A run of a script, one step more at a time. Assumes nothing.
use Rattle.std.proofs.Common.{◌≡◌, ℕ, suc, ◌+◌, ◌<◌, ◌≤◌, cond, ◌||◌, List, [], ◌∷◌, ◌++◌, map, length, get_or, take, drop, set, sym, refl, ap, ◌∙◌, subst, ap₂, Result, arith, drop-cons}
use mathlib.Core.List.{map-append}
use Rattle.std.proofs.lemmas.List.{take_more, take-set-le, length-set, get_or-set_same}
use Rattle.std.proofs.lemmas.Bool.{lt-leb, le-ltb, ne_eqb}
use Rattle.scalar.specs.Ops.{Ops}
use Rattle.shape.specs.Refusals.{answer, first_of}
use Rattle.shape.specs.declared.refusal.Refusal.{Refusal}
use Rattle.shape.specs.declared.operand.TableShape.{TableShape}
use Rattle.steps.specs.Steps.{Step}
use Rattle.steps.specs.Lanes.{StepForward, StepBack, RunForward, RunBack}
use Rattle.steps.proofs.Chains.{forward_more, back_more, forward_answers, back_answers}
use Rattle.state.specs.Memory.{Memory, lane_of, step_of}
use Rattle.state.specs.declared.parts.Parts.{Parts}
use Rattle.state.specs.declared.record.Script.{Script}
use Rattle.state.specs.declared.record.StepRecord.{StepRecord}
use Rattle.shape.proofs.Answered.{first_after}
use Rattle.forward.specs.Tests.{memory_tests}
use Rattle.backward.specs.Tests.{weights_tests}
use Rattle.sweep.specs.Sweeps.{blank, step_at}
use Rattle.sweep.specs.Tests.{no_next, no_latest, forward_tests, back_tests}
use Rattle.sweep.specs.declared.sweep.Sweep.{Sweep}
use Rattle.sweep.specs.declared.sweep.Turned.{Turned}

-- ---- memory that fitted and is lent on, and a step that is left

pub next_clear : (s : Sweep) (t : TableShape) (count : ℕ) (l l' : Parts ℕ) (n n' : ℕ) → s.shape ≡ t → l' ≡ l → n' ≡ n
    → first_of (memory_tests t l n) ≡ 0 → s.taken < count → first_of (forward_tests s count l' n') ≡ 0
next_clear s t count l l' n n' shape sizes work e h =
    let room : first_of (memory_tests s.shape l' n') ≡ 0 = rw (shape, sizes, work) e in
    first_after (memory_tests s.shape l' n') (no_next s count) refl room ∙ ap (λ b. cond b 12 0) (lt-leb count s.taken h)

pub latest_clear : (s : Turned) (t : TableShape) (count : ℕ) (l l' : Parts ℕ) (w w' n n' : ℕ) → s.shape ≡ t → l' ≡ l → w' ≡ w → n' ≡ n
    → first_of (weights_tests t l w n) ≡ 0 → 0 < s.left → s.left ≤ count → first_of (back_tests s count l' w' n') ≡ 0
latest_clear s t count l l' w w' n n' shape sizes sum work e some h =
    let room : first_of (weights_tests s.shape l' w' n') ≡ 0 = rw (shape, sizes, sum, work) e in
    first_after (weights_tests s.shape l' w' n') (no_latest s count) refl room
    ∙ ap₂ (λ a b. cond (a || b) 12 0) (ne_eqb s.left 0 (omega arith)) (le-ltb count s.left h)

-- ---- one step more

-- an answer more
answers_more : {A : Type 0} (rs : List (Result A Refusal)) (i : ℕ) (r : Result A Refusal) → i < length rs → map answer (take i rs) ++ (answer r ∷ []) ≡ map answer (take (i + 1) (set rs i r))
answers_more rs i r h =
    let long : i < length (set rs i r) = omega (arith, length-set rs i r) in
    sym (ap (map answer) (take_more (set rs i r) i r long ∙ ap₂ (λ xs x. xs ++ (x ∷ [])) (take-set-le i rs i r (omega arith)) (get_or-set_same rs i r r h))
    ∙ map-append answer (take i rs) (r ∷ []))

module _ {S M : Type 0} (means : S → M) (o : Ops M) (t : TableShape) (script : Script S) where
  abbrev pub steps : List StepRecord → List (Step M)
  steps xs = map (λ x. step_of means x script) xs

  -- a step forward, by the shape and the place that the sweep had
  pub forward_next : {A : Type 0} (i k : ℕ) (rs : List (Result A Refusal)) (r : Result A Refusal) (t' : TableShape) (place : ℕ) (s m m' : Memory S) → t' ≡ t → place ≡ i → k ≡ answer r
      → i < length script.steps.now → i < length rs
      → RunForward o t.rows t.cols t.lanes (lane_of means o t) (steps (take i script.steps.now)) (map answer (take i rs)) s m
      → StepForward o t'.rows t'.cols t'.lanes (lane_of means o t') (step_at means script place) k m m'
      → RunForward o t.rows t.cols t.lanes (lane_of means o t) (steps (take (i + 1) script.steps.now)) (map answer (take (i + 1) (set rs i r))) s m'
  forward_next i k rs r t' place s m m' et ep ek l a d h =
      let xs = script.steps.now in
      let one = subst (λ (z : TableShape). StepForward o z.rows z.cols z.lanes (lane_of means o z) (step_at means script place) k m m') et h in
      let here = subst (λ (z : ℕ). StepForward o t.rows t.cols t.lanes (lane_of means o t) (step_at means script z) k m m') ep one in
      let told = subst (λ (z : ℕ). StepForward o t.rows t.cols t.lanes (lane_of means o t) (step_at means script i) z m m') ek here in
      let more : steps (take i xs) ++ (step_at means script i ∷ []) ≡ steps (take (i + 1) xs) =
      sym (ap steps (take_more xs i blank l) ∙ map-append (λ x. step_of means x script) (take i xs) (get_or xs i blank ∷ [])) in
      let run = forward_more o t.rows t.cols t.lanes (lane_of means o t) (steps (take i xs)) (map answer (take i rs)) (step_at means script i) (answer r) s m m' d told in
      subst (λ (ys : List (Step M)). RunForward o t.rows t.cols t.lanes (lane_of means o t) ys (map answer (take (i + 1) (set rs i r))) s m') more
      (subst (λ (js : List ℕ). RunForward o t.rows t.cols t.lanes (lane_of means o t) (steps (take i xs) ++ (step_at means script i ∷ [])) js s m') (answers_more rs i r a) run)

  -- and back
  pub back_next : (left place k : ℕ) (t' : TableShape) (w m m' : Memory S) → t' ≡ t → left ≡ place + 1 → left ≤ length script.steps.now
      → ((ks : List ℕ) × RunBack o t.rows t.cols t.lanes (lane_of means o t) (steps (drop left script.steps.now)) ks w m)
      → StepBack o t'.rows t'.cols t'.lanes (lane_of means o t') (step_at means script place) k m m'
      → (ks : List ℕ) × RunBack o t.rows t.cols t.lanes (lane_of means o t) (steps (drop place script.steps.now)) ks w m'
  back_next left place k t' w m m' et el l d h =
      let xs = script.steps.now in
      let one = subst (λ (z : TableShape). StepBack o z.rows z.cols z.lanes (lane_of means o z) (step_at means script place) k m m') et h in
      let es : suc place ≡ left = omega arith in
      let more : get_or xs place blank ∷ drop left xs ≡ drop place xs =
      ap (λ z. get_or xs place blank ∷ drop z xs) (sym es) ∙ sym (drop-cons xs place blank (omega arith)) in (
        k ∷ d.0,
        subst (λ (ys : List StepRecord). RunBack o t.rows t.cols t.lanes (lane_of means o t) (steps ys) (k ∷ d.0) w m') more
            (back_more o t.rows t.cols t.lanes (lane_of means o t) (steps (drop left xs)) d.0 (step_at means script place) k w m m' d.1 one),
      )

-- the way back answers as the way forward did
pub back_alike : {M H : Type 0} (o : Ops M) (r c n : ℕ) (lane : ℕ → H → _) (xs : List (Step M)) (ks js : List ℕ) (s t w z : H)
    → RunForward o r c n lane xs ks s t → RunBack o r c n lane xs js w z → RunBack o r c n lane xs ks w z
back_alike o r c n lane xs ks js s t w z d e =
    subst (λ (l : List ℕ). RunBack o r c n lane xs l w z) (back_answers o r c n lane xs js w z e ∙ sym (forward_answers o r c n lane xs ks s t d)) e

-- Steps taken one by one make runs, from the clauses of the sweep's calls alone. Assumes nothing.
use Rattle.std.proofs.Common.{◌≡◌, ℕ, ◌+◌, ◌<◌, ◌≤◌, cond, ◌||◌, List, [], ◌∷◌, ◌++◌, map, length, get_or, take, drop, set, sym, refl, ap, ap₂, ◌∙◌, subst, Result, arith}
use Rattle.std.proofs.lemmas.List.{map_more, map_push, take_more_set, drop_more, get_or-take, length-take-le}
use Rattle.std.proofs.lemmas.Bool.{lt-leb, le-ltb, ne_eqb}
use Rattle.scalar.specs.Ops.{Ops}
use Rattle.shape.specs.Refusals.{answer, first_of}
use Rattle.shape.proofs.Answered.{first_after}
use Rattle.shape.specs.declared.refusal.Refusal.{Refusal}
use Rattle.shape.specs.declared.operand.TableShape.{TableShape}
use Rattle.steps.specs.Steps.{Step}
use Rattle.steps.specs.Lanes.{StepForward, StepBack, RunForward, RunBack}
use Rattle.state.specs.Memory.{Memory, lane_of, step_of}
use Rattle.state.specs.declared.parts.Parts.{Parts}
use Rattle.state.specs.declared.record.Script.{Script}
use Rattle.state.specs.declared.record.StepRecord.{StepRecord}
use Rattle.forward.specs.Tests.{memory_tests}
use Rattle.backward.specs.Tests.{weights_tests}
use Rattle.sweep.specs.Sweeps.{blank, step_at}
use Rattle.sweep.specs.Tests.{no_next, no_latest, forward_tests, back_tests}
use Rattle.sweep.specs.declared.sweep.Sweep.{Sweep}
use Rattle.sweep.specs.declared.sweep.Turned.{Turned}
use Rattle.by_hand.specs.Firsts.{first_steps}

-- ---- memory that fitted and is lent on, and a step that is left

pub step_left : (s : Sweep) (t : TableShape) (count : ℕ) (l l' : Parts ℕ) (n n' : ℕ) → s.shape ≡ t → l' ≡ l → n' ≡ n
    → first_of (memory_tests t l n) ≡ 0 → s.taken < count → first_of (forward_tests s count l' n') ≡ 0
step_left s t count l l' n n' shape sizes work e h =
    let room : first_of (memory_tests s.shape l' n') ≡ 0 = rw (shape, sizes, work) e in
    first_after (memory_tests s.shape l' n') (no_next s count) refl room ∙ ap (λ b. cond b 12 0) (lt-leb count s.taken h)

pub step_to_carry : (s : Turned) (t : TableShape) (count : ℕ) (l l' : Parts ℕ) (w w' n n' : ℕ) → s.shape ≡ t → l' ≡ l → w' ≡ w → n' ≡ n
    → first_of (weights_tests t l w n) ≡ 0 → 0 < s.left → s.left ≤ count → first_of (back_tests s count l' w' n') ≡ 0
step_to_carry s t count l l' w w' n n' shape sizes sum work e some h =
    let room : first_of (weights_tests s.shape l' w' n') ≡ 0 = rw (shape, sizes, sum, work) e in
    first_after (weights_tests s.shape l' w' n') (no_latest s count) refl room
    ∙ ap₂ (λ a b. cond (a || b) 12 0) (ne_eqb s.left 0 (omega arith)) (le-ltb count s.left h)

module _ {S M : Type 0} (means : S → M) (o : Ops M) (t : TableShape) where
  abbrev pub Forward : List (Step M) → List ℕ → Memory S → Memory S → Type 0
  Forward xs ks s s' = RunForward o t.rows t.cols t.lanes (lane_of means o t) xs ks s s'

  abbrev pub Back : List (Step M) → List ℕ → Memory S → Memory S → Type 0
  Back xs ks w w' = RunBack o t.rows t.cols t.lanes (lane_of means o t) xs ks w w'

  -- a step after the last of a run
  one_more : (xs : List (Step M)) (ks : List ℕ) (x : Step M) (k : ℕ) (s m m' : Memory S) → Forward xs ks s m
      → StepForward o t.rows t.cols t.lanes (lane_of means o t) x k m m' → Forward (xs ++ (x ∷ [])) (ks ++ (k ∷ [])) s m'
  one_more [] [] x k s m m' d h = (m', subst (λ z. StepForward o t.rows t.cols t.lanes (lane_of means o t) x k z m') (sym d) h, refl)
  one_more [] (j ∷ ks) x k s m m' d h = absurd d
  one_more (y ∷ xs) [] x k s m m' d h = absurd d
  one_more (y ∷ xs) (j ∷ ks) x k s m m' d h = (d.0, d.1, one_more xs ks x k d.0 m m' d.2 h)

  -- the step that comes next, with its answer r
  pub taken_next : {A : Type 0} (script : Script S) (i k : ℕ) (rs : List (Result A Refusal)) (r : Result A Refusal) (t' : TableShape) (place : ℕ) (s m m' : Memory S) → t' ≡ t → place ≡ i → k ≡ answer r
      → i < length script.steps.now → i < length rs
      → Forward (first_steps means script i) (map answer (take i rs)) s m
      → StepForward o t'.rows t'.cols t'.lanes (lane_of means o t') (step_at means script place) k m m'
      → Forward (first_steps means script (i + 1)) (map answer (take (i + 1) (set rs i r))) s m'
  taken_next script i k rs r t' place s m m' et ep ek l a d h =
      let xs = script.steps.now in
      let one = subst (λ (z : TableShape). StepForward o z.rows z.cols z.lanes (lane_of means o z) (step_at means script place) k m m') et h in
      let here = subst (λ (z : ℕ). StepForward o t.rows t.cols t.lanes (lane_of means o t) (step_at means script z) k m m') ep one in
      let told = subst (λ (z : ℕ). StepForward o t.rows t.cols t.lanes (lane_of means o t) (step_at means script i) z m m') ek here in
      let steps = map_more (λ x. step_of means x script) xs i blank l in
      let answers = ap (map answer) (take_more_set rs i r a) ∙ map_push answer (take i rs) r in
      subst (λ (ys : List (Step M)). Forward ys (map answer (take (i + 1) (set rs i r))) s m') (sym steps)
      (subst (λ (js : List ℕ). Forward (first_steps means script i ++ (step_at means script i ∷ [])) js s m') (sym answers)
      (one_more (first_steps means script i) (map answer (take i rs)) (step_at means script i) (answer r) s m m' d told))

  -- of the first n steps, the latest that is not yet carried
  pub carried_next : (script : Script S) (n left place k : ℕ) (t' : TableShape) (w m m' : Memory S) → t' ≡ t → left ≡ place + 1 → left ≤ n → n ≤ length script.steps.now
      → ((ks : List ℕ) × Back (map (λ x. step_of means x script) (drop left (take n script.steps.now))) ks w m)
      → StepBack o t'.rows t'.cols t'.lanes (lane_of means o t') (step_at means script place) k m m'
      → (ks : List ℕ) × Back (map (λ x. step_of means x script) (drop place (take n script.steps.now))) ks w m'
  carried_next script n left place k t' w m m' et el l q d h =
      let xs = script.steps.now in
      let one = subst (λ (z : TableShape). StepBack o z.rows z.cols z.lanes (lane_of means o z) (step_at means script place) k m m') et h in
      let inside : place < length (take n xs) = omega (arith, length-take-le n xs q) in
      let more : drop place (take n xs) ≡ get_or xs place blank ∷ drop left (take n xs) =
      drop_more (take n xs) place blank inside ∙ ap₂ (λ y z. y ∷ drop z (take n xs)) (get_or-take n xs place blank (omega arith)) (sym el) in (
        k ∷ d.0,
        subst (λ (ys : List StepRecord). Back (map (λ x. step_of means x script) ys) (k ∷ d.0) w m') (sym more) (m, d.1, one),
      )

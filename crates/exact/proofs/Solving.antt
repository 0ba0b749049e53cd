-- Runs and pairings on filled memory solve the task. Assumes nothing.
use Rattle.std.proofs.Common.{◌≡◌, ℕ, zero, suc, ◌<◌, ℤ, List, [], ◌∷◌, map, length, get_or, refl, sym, ap, ap₂, ◌∙◌, subst, arith}
use Rattle.std.proofs.lemmas.List.{length-map}
use Rattle.scalar.specs.Ops.{Ops}
use Rattle.scalar.specs.Sums.{at}
use Rattle.shape.specs.declared.operand.TableShape.{TableShape}
use Rattle.steps.specs.Steps.{Step, part}
use Rattle.steps.specs.Runs.{run, carry}
use Rattle.steps.specs.Lanes.{RunForward, RunBack}
use Rattle.steps.proofs.Alikes.{alike_refl, pairing_alike}
use Rattle.steps.proofs.Chains.{forward_lanes, back_lanes, forward_answers}
use Rattle.state.specs.Memory.{Memory, lengths, shown, lane_of, vector_of}
use Rattle.state.specs.declared.record.Script.{Script}
use Rattle.state.specs.declared.record.StepRecord.{StepRecord}
use Rattle.sweep.specs.Sweeps.{steps_of}
use Rattle.pairing.specs.Pairings.{lane_pairing}
use Rattle.exact.specs.Tasks.{stored_all, paired_after, paired_before, Ran, Solved}
use Rattle.exact.specs.declared.task.Task.{Task}
use Rattle.shape.specs.Shapes.{cell}

pub map-map : {A B C : Type 0} (f : A → B) (g : B → C) (xs : List A) → map g (map f xs) ≡ map (λ x. g (f x)) xs
map-map f g [] = refl
map-map f g (x ∷ xs) = ap (λ ys. g (f x) ∷ ys) (map-map f g xs)

pub lengths_stored : {S : Type 0} (stored : ℤ → S) (m : Memory ℤ) → lengths (stored_all stored m) ≡ lengths m
lengths_stored stored m = λ i. record { table = length-map m.table stored i; first = length-map m.first stored i; second = length-map m.second stored i }

module _ {S M : Type 0} (means : S → M) where
  -- the steps of a script, by its arrays
  abbrev pub named : List StepRecord → List M → List ℕ → List (Step M)
  named rs ns is = map (λ (r : StepRecord). let y : Step M = record { kind = r.kind; numbers = part r.numbers_at r.number_count ns; list = part r.list_at r.list_count is } in y) rs

  pub steps_stored : (stored : ℤ → S) (x : Script ℤ) (ns : List S) → ns ≡ map stored x.numbers.now
      → named x.steps.now (map means ns) x.indices.now ≡ steps_of (λ v. means (stored v)) x
  steps_stored stored x ns e = ap (λ ms. named x.steps.now ms x.indices.now) (ap (map means) e ∙ map-map stored means x.numbers.now)

  module _ (o : Ops M) (t : TableShape) where
    ran : (xs : List (Step M)) (s w s' w' : Memory S) (ks js : List ℕ) (ps qs : List S)
        → RunForward o t.rows t.cols t.lanes (lane_of means o t) xs ks s s'
        → RunBack o t.rows t.cols t.lanes (lane_of means o t) xs js w w'
        → ((b : ℕ) → b < t.lanes → at means o ps b ≡ lane_pairing means o t s' w b)
        → ((b : ℕ) → b < t.lanes → at means o qs b ≡ lane_pairing means o t s w' b)
        → Ran o means t xs s w ks ps qs
    ran xs s w s' w' ks js ps qs d e p q =
        let lane = lane_of means o t in
        record {
          answers = forward_answers o t.rows t.cols t.lanes lane xs ks s s' d;
          after = λ b l. p b l
              ∙ pairing_alike o t.rows t.cols (lane b s') (lane b w) (run o t.rows t.cols xs (lane b s)) (lane b w)
              (forward_lanes o t.rows t.cols t.lanes lane xs ks s s' d b l) (alike_refl t.rows t.cols (lane b w));
          before = λ b l. q b l
              ∙ pairing_alike o t.rows t.cols (lane b s) (lane b w') (lane b s) (carry o t.rows t.cols xs (lane b w))
              (alike_refl t.rows t.cols (lane b s)) (back_lanes o t.rows t.cols t.lanes lane xs js w w' e b l);
        }

    -- the same where the memories were filled, and lent on for the pairings
    pub ran_filled : (xs ys : List (Step M)) (s w s' w' a b p q p' q' : Memory S) (ks js : List ℕ) (ps qs : List S)
        → ys ≡ xs → a ≡ s → b ≡ w → p ≡ s' → q ≡ w → p' ≡ s → q' ≡ w'
        → RunForward o t.rows t.cols t.lanes (lane_of means o t) ys ks a s'
        → RunBack o t.rows t.cols t.lanes (lane_of means o t) ys js b w'
        → ((b : ℕ) → b < t.lanes → at means o ps b ≡ lane_pairing means o t p q b)
        → ((b : ℕ) → b < t.lanes → at means o qs b ≡ lane_pairing means o t p' q' b)
        → Ran o means t xs s w ks ps qs
    ran_filled xs ys s w s' w' a b p q p' q' ks js ps qs steps ea eb ep eq ep' eq' d e f g =
        let lane = lane_of means o t in
        let d' = subst (λ z. RunForward o t.rows t.cols t.lanes lane xs ks z s') ea (subst (λ zs. RunForward o t.rows t.cols t.lanes lane zs ks a s') steps d) in
        let e' = subst (λ z. RunBack o t.rows t.cols t.lanes lane xs js z w') eb (subst (λ zs. RunBack o t.rows t.cols t.lanes lane zs js b w') steps e) in
        ran xs s w s' w' ks js ps qs d' e'
        (λ k l. f k l ∙ ap₂ (λ x y. lane_pairing means o t x y k) ep eq)
        (λ k l. g k l ∙ ap₂ (λ x y. lane_pairing means o t x y k) ep' eq')

-- the number at a place below the length
number-at : {S M : Type 0} (means : S → M) (number : M → ℕ) (meant : S → ℕ) (zero : M) → ((s : S) → meant s ≡ number (means s))
    → (xs : List S) (b : ℕ) → b < length xs → get_or (map meant xs) b 0 ≡ number (get_or (map means xs) b zero)
number-at means number meant z e [] b h = absurd (omega arith)
number-at means number meant z e (x ∷ xs) zero h = e x
number-at means number meant z e (x ∷ xs) (suc b) h = number-at means number meant z e xs b (omega arith)

module _ {S M : Type 0} (means : S → M) (o : Ops M) (stored : ℤ → S) where
  -- a lane of filled memory holds what its whole numbers mean
  lane-stored : (t : TableShape) (b : ℕ) (m : Memory ℤ) → lane_of means o t b (stored_all stored m) ≡ lane_of (λ v. means (stored v)) o t b m
  lane-stored t b m = λ i. record {
    table = λ j r. get_or (map-map stored means m.table i) (cell t b j r) o.zero;
    first = λ r. get_or (map-map stored means m.first i) (cell (vector_of t).of b 0 r) o.zero;
    second = λ r. get_or (map-map stored means m.second i) (cell (vector_of t).of b 0 r) o.zero;
  }

  pub solved : (number : M → ℕ) (meant : S → ℕ) (x : Task) (ks : List ℕ) (ends beginnings : List S) (after before : List ℕ)
      → ((s : S) → meant s ≡ number (means s)) → length after ≡ x.shape.lanes → length before ≡ x.shape.lanes
      → Ran o means x.shape (steps_of (λ v. means (stored v)) x.script) (stored_all stored (shown x.state)) (stored_all stored (shown x.weights)) ks ends beginnings
      → after ≡ map meant ends → before ≡ map meant beginnings
      → Solved o (λ v. means (stored v)) number x ks after before
  solved number meant x ks ends beginnings after before same la lb r ea eb =
      let t = x.shape in
      let xs = steps_of (λ v. means (stored v)) x.script in
      let na : length ends ≡ t.lanes = sym (length-map ends meant) ∙ ap length (sym ea) ∙ la in
      let nb : length beginnings ≡ t.lanes = sym (length-map beginnings meant) ∙ ap length (sym eb) ∙ lb in
      record {
        answers = r.answers;
        after = λ b l. ap (λ ys. get_or ys b 0) ea ∙ number-at means number meant o.zero same ends b (omega arith) ∙ ap number (r.after b l)
            ∙ ap₂ (λ s w. number (paired_after o t.rows t.cols xs s w)) (lane-stored t b (shown x.state)) (lane-stored t b (shown x.weights));
        before = λ b l. ap (λ ys. get_or ys b 0) eb ∙ number-at means number meant o.zero same beginnings b (omega arith) ∙ ap number (r.before b l)
            ∙ ap₂ (λ s w. number (paired_before o t.rows t.cols xs s w)) (lane-stored t b (shown x.state)) (lane-stored t b (shown x.weights));
      }

-- What lines say with one line more. Assumes nothing.
use Rattle.std.proofs.Common.{◌≡◌, ℕ, ◌+◌, ◌*◌, ◌<◌, ◌≤◌, Bool, true, false, cond, ◌&&◌, eqb, List, [], ◌∷◌, ◌++◌, length, get_or, set, ℤ, pos, Some, sym, refl, ap, ◌∙◌, ⊎_elim, append-nil, add-zero, arith, length-append}
use Rattle.std.specs.List.{fold}
use Rattle.std.proofs.lemmas.List.Sums.{fold-append}
use Rattle.std.proofs.lemmas.Grind.{flat_map-append}
use Rattle.std.proofs.lemmas.Bool.{cases_Bool, cond-true, cond-false, eqb-true, eqb-false, eq-eqb, ne_eqb}
use Rattle.std.proofs.lemmas.List.{get_or-set_same, get_or-set_other}
use Rattle.shape.specs.declared.operand.TableShape.{TableShape}
use Rattle.steps.specs.Steps.{Step}
use Rattle.state.specs.declared.record.StepRecord.{StepRecord}
use Rattle.words.specs.declared.Memory.{Memory}
use Rattle.reader.specs.declared.program.Ring.TheVariants.{Wrap}
use Rattle.reader.specs.Grammar.{Line}
use Rattle.reader.specs.Grammar.Line.{ring, size, cell, step}
use Rattle.reader.specs.Said.{ring_after, ring_in, shape_of, shape_after, shape_in, value_after, value_in, steps_of, steps_in, numbers_of, numbers_in, indices_of, indices_in, record_at, records_from}

module _ (ls : List Line) (x : Line) where
  pub ring_more : ring_in (ls ++ x ∷ []) ≡ ring_after (ring_in ls) x
  ring_more = fold-append ring_after Wrap ls (x ∷ [])

  pub shape_more : shape_in (ls ++ x ∷ []) ≡ shape_after (shape_in ls) x
  shape_more = fold-append shape_after (shape_of 0 0 1) ls (x ∷ [])

  pub steps_more : steps_in (ls ++ x ∷ []) ≡ steps_in ls ++ steps_of x
  steps_more = flat_map-append steps_of ls (x ∷ []) ∙ ap (λ (xs : List (Step ℤ)). steps_in ls ++ xs) (append-nil (steps_of x))

  pub numbers_more : numbers_in (ls ++ x ∷ []) ≡ numbers_in ls ++ numbers_of x
  numbers_more = flat_map-append numbers_of ls (x ∷ []) ∙ ap (λ (xs : List ℤ). numbers_in ls ++ xs) (append-nil (numbers_of x))

  pub indices_more : indices_in (ls ++ x ∷ []) ≡ indices_in ls ++ indices_of x
  indices_more = flat_map-append indices_of ls (x ∷ []) ∙ ap (λ (xs : List ℕ). indices_in ls ++ xs) (append-nil (indices_of x))

-- behind the ring and the size a line that leaves the shape tells a value on
pub value_more : (ls : List Line) (x : Line) (m : Memory) (k : ℕ) → 2 ≤ length ls → shape_after (shape_in ls) x ≡ shape_in ls → value_in (ls ++ x ∷ []) m k ≡ value_after (shape_in ls) m k (value_in ls m k) x
value_more [] x m k h e = absurd (omega arith)
value_more (a ∷ []) x m k h e = absurd (omega arith)
value_more (a ∷ b ∷ ls) x m k h e =
    ap (λ (t : TableShape). fold (value_after t m k) (pos 0) (ls ++ x ∷ [])) (shape_more (a ∷ b ∷ ls) x ∙ e)
    ∙ fold-append (value_after (shape_in (a ∷ b ∷ ls)) m k) (pos 0) ls (x ∷ [])

pub records_more : (n i : ℕ) (ls : List Line) (x : Step ℤ) → records_from n i (steps_in ls ++ x ∷ []) ≡ records_from n i (steps_in ls) ++ record_at (n + length (numbers_in ls)) (i + length (indices_in ls)) x ∷ []
records_more n i [] x = (let a : n + 0 ≡ n = add-zero n in let b : i + 0 ≡ i = add-zero i in ap (λ (j : ℕ). record_at j i x ∷ []) (sym a) ∙ ap (λ (j : ℕ). record_at (n + 0) j x ∷ []) (sym b))
records_more n i (ring y ∷ ls) x = records_more n i ls x
records_more n i (size r c m ∷ ls) x = records_more n i ls x
records_more n i (cell m b j r v ∷ ls) x = records_more n i ls x
records_more n i (step k ns is ∷ ls) x =
    let a : n + length ns + length (numbers_in ls) ≡ n + length (ns ++ numbers_in ls) = omega (arith, length-append ns (numbers_in ls)) in
    let b : i + length is + length (indices_in ls) ≡ i + length (is ++ indices_in ls) = omega (arith, length-append is (indices_in ls)) in
    let here = record_at n i (record { kind = k; numbers = Some ns; list = Some is }) in
    let rest = records_from (n + length ns) (i + length is) (steps_in ls) in
    ap (λ (z : List StepRecord). here ∷ z) (records_more (n + length ns) (i + length is) ls x)
    ∙ ap (λ (j : ℕ). here ∷ (rest ++ record_at j (i + length is + length (indices_in ls)) x ∷ [])) a
    ∙ ap (λ (j : ℕ). here ∷ (rest ++ record_at (n + length (ns ++ numbers_in ls)) j x ∷ [])) b

-- ---- the cells of six memories in one array

pub set_cell : (cs : List ℤ) (at k : ℕ) (w : ℤ) → at < length cs → get_or (set cs at w) k (pos 0) ≡ cond (eqb at k) w (get_or cs k (pos 0))
set_cell cs at k w lt =
    ⊎_elim
    (λ t. let e = eqb-true at k t in ap (λ (j : ℕ). get_or (set cs at w) j (pos 0)) (sym e) ∙ get_or-set_same cs at w (pos 0) lt ∙ sym (cond-true (eqb at k) w (get_or cs k (pos 0)) t))
    (λ f. get_or-set_other cs at k w (pos 0) (λ e. eqb-false at k f (sym e)) ∙ sym (cond-false (eqb at k) w (get_or cs k (pos 0)) f))
    (cases_Bool (eqb at k))

pub same_slot : (a b p k : ℕ) → p < 1024 → k < 1024 → eqb (a * 1024 + p) (b * 1024 + k) ≡ (eqb a b && eqb p k)
same_slot a b p k hp hk = go (eqb a b) (eqb p k) refl refl
  where
    go : (s t : Bool) → eqb a b ≡ s → eqb p k ≡ t → eqb (a * 1024 + p) (b * 1024 + k) ≡ (s && t)
    go true true e f = (let x = eqb-true a b e in let y = eqb-true p k f in eq-eqb _ _ (omega arith))
    go true false e f = (let x = eqb-true a b e in let y = eqb-false p k f in ne_eqb _ _ (λ z. y (omega arith)))
    go false t e f = (let x = eqb-false a b e in ne_eqb _ _ (λ z. x (omega arith)))

-- What acceptance and refusal tell of a step. Assumes nothing.
use Rattle.std.proofs.Common.{◌≡◌, ℕ, Bool, true, false, ◌&&◌, eqb, List, length, Some, None, Option, refl}
use Rattle.std.proofs.lemmas.Bool.{eqb-true, eq-eqb, ne_eqb, not-false, cond-true, cond-false, true≢false, false≢true}
use Rattle.scalar.specs.Ops.{Ops}
use Rattle.shape.proofs.Verdicts.{clear}
use Rattle.index.specs.Indices.{outside}
use Rattle.steps.specs.declared.kind.Kind.{Kind}
use Rattle.steps.specs.Steps.{Step, given, needed, listed, misplaced, miscounted, step_tests, fault}
use Rattle.steps.specs.States.{Lane}
use Rattle.steps.specs.Actions.{forward, back}
use Rattle.steps.specs.Runs.{taken, carried}

-- the columns lie within c, and a list that is read has an entry for each of r rows, each below r
pub record Lawful (r c : ℕ) (k : Kind) (ks : List ℕ) : Type 0 where
  pub inside : misplaced c k ≡ false
  pub entries : listed k ≡ true → length ks ≡ r
  pub below : listed k ≡ true → outside r ks ≡ false

counted : {A : Type 0} (n : ℕ) (xs : Option (List A)) → miscounted n xs ≡ false → length (given xs) ≡ n
counted n None e = absurd (true≢false e)
counted n (Some xs) e = eqb-true (length xs) n (not-false _ e)

second : (a b : Bool) → (a && b) ≡ false → a ≡ true → b ≡ false
second true b e h = e
second false b e h = absurd (false≢true h)

pub accepted : {M : Type 0} (r c : ℕ) (x : Step M) → fault r c x ≡ 0 → Lawful r c x.kind (given x.list)
accepted r c x e =
    let p = clear (step_tests r c x) refl e in
    record {
      inside = p.0;
      entries = λ h. counted r x.list (second (listed x.kind) (miscounted r x.list) p.1.1.1.0 h);
      below = second (listed x.kind) (outside r (given x.list)) p.1.1.1.1.0;
    }

-- and it has the numbers that it needs
pub enough : {M : Type 0} (r c : ℕ) (x : Step M) → fault r c x ≡ 0 → length (given x.numbers) ≡ needed x.kind
enough r c x e = counted (needed x.kind) x.numbers (clear (step_tests r c x) refl e).1.1.0

module _ {M : Type 0} (o : Ops M) (r c : ℕ) (x : Step M) (s : Lane M) where
  pub taken_accepted : fault r c x ≡ 0 → taken o r c x s ≡ forward o x s
  taken_accepted e = cond-true (eqb (fault r c x) 0) (forward o x s) s (eq-eqb (fault r c x) 0 e)

  pub taken_refused : (fault r c x ≡ 0 → ⊥) → taken o r c x s ≡ s
  taken_refused never = cond-false (eqb (fault r c x) 0) (forward o x s) s (ne_eqb (fault r c x) 0 never)

  pub carried_accepted : fault r c x ≡ 0 → carried o r c x s ≡ back o x s
  carried_accepted e = cond-true (eqb (fault r c x) 0) (back o x s) s (eq-eqb (fault r c x) 0 e)

  pub carried_refused : (fault r c x ≡ 0 → ⊥) → carried o r c x s ≡ s
  carried_refused never = cond-false (eqb (fault r c x) 0) (back o x s) s (ne_eqb (fault r c x) 0 never)

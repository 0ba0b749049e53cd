-- The laws of runs on a memory of n lanes, from those of one lane. Assumes nothing.
use Rattle.std.proofs.Common.{◌≡◌, ℕ, ◌<◌, List, [], ◌∷◌, ◌++◌, map, sym, refl, ◌∙◌, subst, ap₂}
use Rattle.scalar.specs.Ops.{Ops, Ring}
use Rattle.steps.specs.States.{Lane, Alike}
use Rattle.steps.specs.Steps.{Step, fault}
use Rattle.steps.specs.Actions.{forward, back}
use Rattle.steps.specs.Runs.{taken, carried, run, carry}
use Rattle.steps.specs.Lanes.{StepForward, StepBack, RunForward, RunBack, RunsTransposed, RunsApart}
use Rattle.steps.proofs.Accepted.{taken_accepted, taken_refused, carried_accepted, carried_refused}
use Rattle.steps.proofs.Alikes.{alike_refl, alike_sym, alike_trans, run_alike, carry_alike, carried_alike, pairing_alike}
use Rattle.steps.proofs.Transposes.{runs_transposed}

module _ {M H : Type 0} (o : Ops M) (r c n : ℕ) (lane : ℕ → H → Lane M) where
  -- ---- a run's lanes and answers are functions of its steps

  pub forward_lanes : (xs : List (Step M)) (ks : List ℕ) (s t : H) → RunForward o r c n lane xs ks s t
      → (b : ℕ) → b < n → Alike r c (lane b t) (run o r c xs (lane b s))
  forward_lanes [] [] s t d b l = subst (λ (m : H). Alike r c (lane b m) (lane b s)) d (alike_refl r c (lane b s))
  forward_lanes [] (k ∷ ks) s t d b l = absurd d
  forward_lanes (x ∷ xs) [] s t d b l = absurd d
  forward_lanes (x ∷ xs) (k ∷ ks) s t d b l =
      alike_trans r c (lane b t) (run o r c xs (lane b d.0)) (run o r c xs (taken o r c x (lane b s)))
      (forward_lanes xs ks d.0 t d.2 b l)
      (run_alike o r c xs (lane b d.0) (taken o r c x (lane b s)) (d.1.lanes b l))

  pub back_lanes : (xs : List (Step M)) (ks : List ℕ) (w z : H) → RunBack o r c n lane xs ks w z
      → (b : ℕ) → b < n → Alike r c (lane b z) (carry o r c xs (lane b w))
  back_lanes [] [] w z d b l = subst (λ (m : H). Alike r c (lane b m) (lane b w)) d (alike_refl r c (lane b w))
  back_lanes [] (k ∷ ks) w z d b l = absurd d
  back_lanes (x ∷ xs) [] w z d b l = absurd d
  back_lanes (x ∷ xs) (k ∷ ks) w z d b l =
      alike_trans r c (lane b z) (carried o r c x (lane b d.0)) (carry o r c (x ∷ xs) (lane b w))
      (d.2.lanes b l)
      (carried_alike o r c x (lane b d.0) (carry o r c xs (lane b w)) (back_lanes xs ks w d.0 d.1 b l))

  pub forward_answers : (xs : List (Step M)) (ks : List ℕ) (s t : H) → RunForward o r c n lane xs ks s t → ks ≡ map (fault r c) xs
  forward_answers [] [] s t d = refl
  forward_answers [] (k ∷ ks) s t d = absurd d
  forward_answers (x ∷ xs) [] s t d = absurd d
  forward_answers (x ∷ xs) (k ∷ ks) s t d = ap₂ ◌∷◌ d.1.number (forward_answers xs ks d.0 t d.2)

  pub back_answers : (xs : List (Step M)) (ks : List ℕ) (w z : H) → RunBack o r c n lane xs ks w z → ks ≡ map (fault r c) xs
  back_answers [] [] w z d = refl
  back_answers [] (k ∷ ks) w z d = absurd d
  back_answers (x ∷ xs) [] w z d = absurd d
  back_answers (x ∷ xs) (k ∷ ks) w z d = ap₂ ◌∷◌ d.2.number (back_answers xs ks w d.0 d.1)

  -- ---- one step: accepted, it is what its kind makes of each lane; refused, it moves nothing

  pub accepted_forward : (x : Step M) (s t : H) → fault r c x ≡ 0 → ((b : ℕ) → b < n → Alike r c (lane b t) (forward o x (lane b s))) → StepForward o r c n lane x 0 s t
  accepted_forward x s t e h = record {
    number = sym e;
    lanes = λ b l. subst (λ (m : Lane M). Alike r c (lane b t) m) (sym (taken_accepted o r c x (lane b s) e)) (h b l);
  }

  pub refused_forward : (x : Step M) (k : ℕ) (s : H) → k ≡ fault r c x → (k ≡ 0 → ⊥) → StepForward o r c n lane x k s s
  refused_forward x k s e never = record {
    number = e;
    lanes = λ b l. subst (λ (m : Lane M). Alike r c (lane b s) m) (sym (taken_refused o r c x (lane b s) (λ q. never (e ∙ q)))) (alike_refl r c (lane b s));
  }

  pub accepted_back : (x : Step M) (w z : H) → fault r c x ≡ 0 → ((b : ℕ) → b < n → Alike r c (lane b z) (back o x (lane b w))) → StepBack o r c n lane x 0 w z
  accepted_back x w z e h = record {
    number = sym e;
    lanes = λ b l. subst (λ (m : Lane M). Alike r c (lane b z) m) (sym (carried_accepted o r c x (lane b w) e)) (h b l);
  }

  pub refused_back : (x : Step M) (k : ℕ) (w : H) → k ≡ fault r c x → (k ≡ 0 → ⊥) → StepBack o r c n lane x k w w
  refused_back x k w e never = record {
    number = e;
    lanes = λ b l. subst (λ (m : Lane M). Alike r c (lane b w) m) (sym (carried_refused o r c x (lane b w) (λ q. never (e ∙ q)))) (alike_refl r c (lane b w));
  }

  -- ---- one step more

  pub forward_more : (xs : List (Step M)) (ks : List ℕ) (x : Step M) (k : ℕ) (s t t' : H) → RunForward o r c n lane xs ks s t → StepForward o r c n lane x k t t'
      → RunForward o r c n lane (xs ++ (x ∷ [])) (ks ++ (k ∷ [])) s t'
  forward_more [] [] x k s t t' d h = (t', subst (λ (m : H). StepForward o r c n lane x k m t') (sym d) h, refl)
  forward_more [] (j ∷ ks) x k s t t' d h = absurd d
  forward_more (y ∷ xs) [] x k s t t' d h = absurd d
  forward_more (y ∷ xs) (j ∷ ks) x k s t t' d h = (d.0, d.1, forward_more xs ks x k d.0 t t' d.2 h)

  pub back_more : (xs : List (Step M)) (ks : List ℕ) (x : Step M) (k : ℕ) (w z z' : H) → RunBack o r c n lane xs ks w z → StepBack o r c n lane x k z z'
      → RunBack o r c n lane (x ∷ xs) (k ∷ ks) w z'
  back_more xs ks x k w z z' d h = (z, d, h)

  -- ---- the laws

  pub chains_transposed : Ring o → RunsTransposed o r c n lane
  chains_transposed 𝓡 = record {
    pairings = λ xs ks js s t w z d e b l.
        let first = lane b s in
        let weights = lane b w in
        pairing_alike o r c (lane b t) weights (run o r c xs first) weights (forward_lanes xs ks s t d b l) (alike_refl r c weights)
        ∙ (runs_transposed 𝓡).pairings r c xs first weights
        ∙ pairing_alike o r c first (carry o r c xs weights) first (lane b z) (alike_refl r c first)
        (alike_sym r c (lane b z) (carry o r c xs weights) (back_lanes xs js w z e b l));
  }

  -- two lanes that come from alike ones by one function are alike
  joined : (f : Lane M → Lane M) (s s' t t' : Lane M) → Alike r c t (f s) → Alike r c t' (f s') → Alike r c (f s) (f s') → Alike r c t t'
  joined f s s' t t' h g e = alike_trans r c t (f s) t' h (alike_trans r c (f s) (f s') t' e (alike_sym r c t' (f s') g))

  pub chains_apart : RunsApart o r c n lane
  chains_apart = record {
    states = λ xs ks js s t s' t' d e b l h.
        joined (run o r c xs) (lane b s) (lane b s') (lane b t) (lane b t') (forward_lanes xs ks s t d b l) (forward_lanes xs js s' t' e b l)
        (run_alike o r c xs (lane b s) (lane b s') h);
    weights = λ xs ks js w z w' z' d e b l h.
        joined (carry o r c xs) (lane b w) (lane b w') (lane b z) (lane b z') (back_lanes xs ks w z d b l) (back_lanes xs js w' z' e b l)
        (carry_alike o r c xs (lane b w) (lane b w') h);
    refusals = λ xs ks js s t s' t' d e. forward_answers xs ks s t d ∙ sym (forward_answers xs js s' t' e);
    back_refusals = λ xs ks js s t w z d e. forward_answers xs ks s t d ∙ sym (back_answers xs js w z e);
  }

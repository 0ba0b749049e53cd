-- Runs on a memory of n lanes, told by what each step answered and left in each lane, and their laws. Assumes nothing.
use Rattle.std.specs.Prelude.{◌≡◌, ℕ, ◌<◌, List, [], ◌∷◌}
use Rattle.scalar.specs.Ops.{Ops}
use Rattle.steps.specs.States.{Lane, Alike, pairing}
use Rattle.steps.specs.Steps.{Step, fault}
use Rattle.steps.specs.Runs.{taken, carried}

-- lanes of r rows and c columns; `lane b` reads lane b of a memory
module _ {M H : Type 0} (o : Ops M) (r c n : ℕ) (lane : ℕ → H → Lane M) where
  -- the step x answered k and led from s to t: in each lane its own entries gave the new ones
  pub record StepForward (x : Step M) (k : ℕ) (s t : H) : Type 0 where
    pub number : k ≡ fault r c x
    pub lanes : (b : ℕ) → b < n → Alike r c (lane b t) (taken o r c x (lane b s))

  -- the same of weights, the way back
  pub record StepBack (x : Step M) (k : ℕ) (w z : H) : Type 0 where
    pub number : k ≡ fault r c x
    pub lanes : (b : ℕ) → b < n → Alike r c (lane b z) (carried o r c x (lane b w))

  -- steps with their answers, from the first state s to the last t
  abbrev pub RunForward : List (Step M) → List ℕ → H → H → Type 0
  RunForward [] [] s t = s ≡ t
  RunForward [] (k ∷ ks) s t = ⊥
  RunForward (x ∷ xs) [] s t = ⊥
  RunForward (x ∷ xs) (k ∷ ks) s t = (m : H) × StepForward x k s m × RunForward xs ks m t

  -- the latest step first: from the weights w of the last state to the weights z of the first
  abbrev pub RunBack : List (Step M) → List ℕ → H → H → Type 0
  RunBack [] [] w z = w ≡ z
  RunBack [] (k ∷ ks) w z = ⊥
  RunBack (x ∷ xs) [] w z = ⊥
  RunBack (x ∷ xs) (k ∷ ks) w z = (m : H) × RunBack xs ks w m × StepBack x k m z

  -- in each lane, the last state paired with any weights gives what the first gives with the weights carried back
  pub record RunsTransposed : Type 0 where
    pub pairings : (xs : List (Step M)) (ks js : List ℕ) (s t w z : H) → RunForward xs ks s t → RunBack xs js w z
        → (b : ℕ) → b < n → pairing o r c (lane b t) (lane b w) ≡ pairing o r c (lane b s) (lane b z)

  -- what a lane holds after a run comes from that lane alone, and the refusals come from no lane
  pub record RunsApart : Type 0 where
    pub states : (xs : List (Step M)) (ks js : List ℕ) (s t s' t' : H) → RunForward xs ks s t → RunForward xs js s' t'
        → (b : ℕ) → b < n → Alike r c (lane b s) (lane b s') → Alike r c (lane b t) (lane b t')
    pub weights : (xs : List (Step M)) (ks js : List ℕ) (w z w' z' : H) → RunBack xs ks w z → RunBack xs js w' z'
        → (b : ℕ) → b < n → Alike r c (lane b w) (lane b w') → Alike r c (lane b z) (lane b z')
    pub refusals : (xs : List (Step M)) (ks js : List ℕ) (s t s' t' : H) → RunForward xs ks s t → RunForward xs js s' t' → ks ≡ js
    pub back_refusals : (xs : List (Step M)) (ks js : List ℕ) (s t w z : H) → RunForward xs ks s t → RunBack xs js w z → ks ≡ js

-- Runs of steps on one lane, forward and back, and the two laws that hold of every run. Assumes nothing.
use Rattle.std.specs.Prelude.{◌≡◌, ℕ, cond, List, [], ◌∷◌, ◌==◌}
use Rattle.scalar.specs.Ops.{Ops}
use Rattle.steps.specs.States.{Lane, Alike, pairing}
use Rattle.steps.specs.Steps.{Step, fault}
use Rattle.steps.specs.Actions.{forward, back}

module _ {M : Type 0} (o : Ops M) (r c : ℕ) where
  -- a step on a state; a refused one leaves it as it was
  abbrev pub taken : Step M → Lane M → Lane M
  taken x s = cond (fault r c x == 0) (forward o x s) s

  -- a step on weights, the way back
  abbrev pub carried : Step M → Lane M → Lane M
  carried x w = cond (fault r c x == 0) (back o x w) w

  abbrev pub run : List (Step M) → Lane M → Lane M
  run [] s = s
  run (x ∷ xs) s = run xs (taken x s)

  -- the latest step first
  abbrev pub carry : List (Step M) → Lane M → Lane M
  carry [] w = w
  carry (x ∷ xs) w = carried x (carry xs w)

-- the backward run is the transpose of the forward run: the state at the end, paired with any weights,
-- gives what the state at the beginning gives with the weights carried back
pub record Transposed {M : Type 0} (o : Ops M) : Type 0 where
  pub pairings : (r c : ℕ) (xs : List (Step M)) (s w : Lane M) → pairing o r c (run o r c xs s) w ≡ pairing o r c s (carry o r c xs w)

-- lanes stay apart: states alike in a lane are alike there after every run, and so are weights carried back.
-- Which steps are refused, and with which numbers, is `fault` of the steps and the shape: no entry comes into it.
pub record Apart {M : Type 0} (o : Ops M) : Type 0 where
  pub states : (r c : ℕ) (xs : List (Step M)) (s t : Lane M) → Alike r c s t → Alike r c (run o r c xs s) (run o r c xs t)
  pub weights : (r c : ℕ) (xs : List (Step M)) (w z : Lane M) → Alike r c w z → Alike r c (carry o r c xs w) (carry o r c xs z)

-- A step forward on memory: what a kind leaves in every lane. Assumes nothing.
use Rattle.std.specs.Prelude.{◌≡◌, ℕ, ◌<◌, true, false, List, length}
use Rattle.scalar.specs.Ops.{Ops}
use Rattle.shape.specs.declared.operand.TableShape.{TableShape}
use Rattle.index.specs.Indices.{outside}
use Rattle.steps.specs.States.{Alike}
use Rattle.steps.specs.Steps.{needed, listed, misplaced, too_many}
use Rattle.steps.specs.Actions.{forward_by}
use Rattle.steps.specs.declared.kind.Kind.{Kind}
use Rattle.state.specs.Memory.{Memory, lane_of}

-- from the memory s to the memory m, each lane became what the kind makes of it with the numbers ms and the list ks
abbrev pub Forward : {S M : Type 0} → (S → M) → Ops M → TableShape → Kind → List M → List ℕ → Memory S → Memory S → Type 0
Forward means o t kind ms ks s m = (b : ℕ) → b < t.lanes → Alike t.rows t.cols (lane_of means o t b m) (forward_by o kind ms ks (lane_of means o t b s))

-- a kind within r rows and c columns, with n numbers and a list
pub record Allowed (r c : ℕ) (kind : Kind) (n : ℕ) (ks : List ℕ) : Type 0 where
  pub inside : misplaced c kind ≡ false
  pub few : too_many kind ≡ false
  pub numbers : n ≡ needed kind
  pub long : listed kind ≡ true → length ks ≡ r
  pub below : listed kind ≡ true → outside r ks ≡ false

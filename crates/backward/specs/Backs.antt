-- What a kind of step makes of the weights in all lanes on the way back. Assumes nothing.
use Rattle.std.specs.Prelude.{ℕ, ◌<◌, List}
use Rattle.scalar.specs.Ops.{Ops}
use Rattle.shape.specs.declared.operand.TableShape.{TableShape}
use Rattle.steps.specs.States.{Alike}
use Rattle.steps.specs.Actions.{back_by}
use Rattle.steps.specs.declared.kind.Kind.{Kind}
use Rattle.state.specs.Memory.{Memory, lane_of}

-- each lane of z is what the kind with the numbers ms and the list ks makes of that lane of w
abbrev pub BackBy : {S M : Type 0} → (S → M) → Ops M → TableShape → Kind → List M → List ℕ → Memory S → Memory S → Type 0
BackBy means o t k ms ks w z = (b : ℕ) → b < t.lanes → Alike t.rows t.cols (lane_of means o t b z) (back_by o k ms ks (lane_of means o t b w))

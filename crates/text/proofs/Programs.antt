-- A program that holds what lines say is a task that is written as they say. Assumes nothing.
use Rattle.std.proofs.Common.{◌≡◌, ℕ, refl, ◌+◌, ◌-◌, ◌*◌, ◌<◌, ◌≤◌, ℤ, pos, List, length, get_or, drop, ap, ap₂, ◌∙◌, arith}
use Rattle.std.proofs.lemmas.List.{get_or-map, get_or-take, get_or-drop}
use Rattle.scalar.specs.Ops.{Ops}
use Rattle.scalar.specs.Sums.{at}
use Rattle.shape.specs.Shapes.{cell, cells, Fits, In}
use Rattle.shape.specs.declared.operand.TableShape.{TableShape}
use Rattle.shape.proofs.Blocks.{cell_fits}
use Rattle.scalar.specs.Modular.{wraps, residues}
use Rattle.steps.specs.States.{Lane, Alike}
use Rattle.steps.specs.Steps.{Step}
use Rattle.sweep.specs.Sweeps.{steps_of}
use Rattle.exact.specs.Values.{wrap_value, residue_value}
use Rattle.state.specs.Memory.{shown, lengths, lane_of, vector_of, Holds}
use Rattle.exact.specs.declared.task.Task.{Task}
use Rattle.words.specs.declared.Memory.{Memory}
use Rattle.words.specs.declared.Memory.TheVariants.{D, E, U, V, P, Q}
use Rattle.reader.specs.declared.program.Program.{Program}
use Rattle.reader.specs.Grammar.{Line}
use Rattle.reader.specs.Said.{value_in, memory_shape, shape_in}
use Rattle.reader.specs.Held.{Held, base}
use Rattle.reader.specs.declared.program.Ring.{Ring}
use Rattle.reader.specs.declared.program.Ring.TheVariants.{Wrap, Residue}
use Rattle.text.specs.Answers.{run_lines, steps, state, weights, script_lines}
use Rattle.text.specs.Solutions.{IsTaskOf, values_of, task_lines}
use Rattle.text.proofs.Scripts.{named_all}
use Rattle.text.proofs.Solutions.{run_same}

-- ---- cells

module _ {M : Type 0} (o : Ops M) (value : ℤ → M) (ls : List Line) (p : Program) (h : Held ls p) where
  -- a cell of a memory of the shape s that xs has the values of
  cell_same : (m : Memory) (s : TableShape) (n : ℕ) (xs : List ℤ) → n ≡ cells s → xs ≡ values_of p m n → Fits s (length xs) → cells s ≤ 1024
      → (b j i : ℕ) → In s b j i → at value o xs (cell s b j i) ≡ value (value_in ls m (cell s b j i))
  cell_same m s n xs size e fits few b j i inside =
      let k = cell s b j i in
      let l : k < length xs = cell_fits s (length xs) b j i fits inside in
      let near : k < base m + n - base m = (let z = fits.size in omega arith) in
      get_or-map value xs k (pos 0) o.zero l
      ∙ ap value
      (ap (λ ys. get_or ys k (pos 0)) e ∙ get_or-take (base m + n - base m) (drop (base m) p.cells) k (pos 0) near
      ∙ get_or-drop (base m) p.cells k (pos 0) ∙ h.cells m k (omega arith))

  -- lane b of the state and of the weights that the lines give, in memories of the shape t
  abbrev state_by : TableShape → ℕ → Lane M
  state_by t b = record {
    table = λ j i. value (value_in ls D (cell (memory_shape t D) b j i));
    first = λ i. value (value_in ls U (cell (memory_shape t U) b 0 i));
    second = λ i. value (value_in ls V (cell (memory_shape t V) b 0 i));
  }

  abbrev weights_by : TableShape → ℕ → Lane M
  weights_by t b = record {
    table = λ j i. value (value_in ls E (cell (memory_shape t E) b j i));
    first = λ i. value (value_in ls P (cell (memory_shape t P) b 0 i));
    second = λ i. value (value_in ls Q (cell (memory_shape t Q) b 0 i));
  }

  module _ (x : Task) (k : IsTaskOf p x) (few : cells p.shape ≤ 1024) (narrow : cells (vector_of p.shape).of ≤ 1024) where
    state_same : Holds p.shape (lengths (shown x.state)) → (b : ℕ) → b < p.shape.lanes
        → Alike p.shape.rows p.shape.cols (lane_of value o p.shape b (shown x.state)) (state_by p.shape b)
    state_same ok b l =
        let one : 0 < 1 = omega arith in
        let flat : p.shape.rows * p.shape.lanes ≡ cells (vector_of p.shape).of = omega arith in
        record {
          table = λ j i c r. cell_same D p.shape (cells p.shape) x.state.table.now refl k.table ok.table few b j i (record { lane = l; col = c; row = r });
          first = λ i r. cell_same U (vector_of p.shape).of (p.shape.rows * p.shape.lanes) x.state.first.now flat k.first ok.first narrow b 0 i (record { lane = l; col = one; row = r });
          second = λ i r. cell_same V (vector_of p.shape).of (p.shape.rows * p.shape.lanes) x.state.second.now flat k.second ok.second narrow b 0 i (record { lane = l; col = one; row = r });
        }

    weights_same : Holds p.shape (lengths (shown x.weights)) → (b : ℕ) → b < p.shape.lanes
        → Alike p.shape.rows p.shape.cols (lane_of value o p.shape b (shown x.weights)) (weights_by p.shape b)
    weights_same ok b l =
        let one : 0 < 1 = omega arith in
        let flat : p.shape.rows * p.shape.lanes ≡ cells (vector_of p.shape).of = omega arith in
        record {
          table = λ j i c r. cell_same E p.shape (cells p.shape) x.weights.table.now refl k.table_weights ok.table few b j i (record { lane = l; col = c; row = r });
          first = λ i r. cell_same P (vector_of p.shape).of (p.shape.rows * p.shape.lanes) x.weights.first.now flat k.first_weights ok.first narrow b 0 i (record { lane = l; col = one; row = r });
          second = λ i r. cell_same Q (vector_of p.shape).of (p.shape.rows * p.shape.lanes) x.weights.second.now flat k.second_weights ok.second narrow b 0 i (record { lane = l; col = one; row = r });
        }

    -- ---- lines

    lines_same : (number : M → ℕ) → Holds p.shape (lengths (shown x.state)) → Holds p.shape (lengths (shown x.weights))
        → run_lines o number x.shape (steps_of value x.script) (λ b. lane_of value o x.shape b (shown x.state)) (λ b. lane_of value o x.shape b (shown x.weights))
        ≡ run_lines o number (shape_in ls) (steps value ls) (state value ls) (weights value ls)
    lines_same number ok ok' =
        let read = λ (t : TableShape) (xs : List (Step M)). run_lines o number t xs (λ b. lane_of value o t b (shown x.state)) (λ b. lane_of value o t b (shown x.weights)) in
        let said = λ (t : TableShape). run_lines o number t (steps value ls) (state_by t) (weights_by t) in
        let script : steps_of value x.script ≡ steps value ls =
        named_all value ls x.script.steps.now x.script.numbers.now x.script.indices.now (k.steps ∙ h.steps) (k.numbers ∙ h.numbers) (k.indices ∙ h.indices) in
        ap₂ read k.shape script
        ∙ run_same o number p.shape (steps value ls) _ _ (state_by p.shape) (weights_by p.shape) (state_same ok) (weights_same ok')
        ∙ ap said h.shape

-- what is written for the task is what the lines say
pub task_same : (ls : List Line) (p : Program) (x : Task) → Held ls p → IsTaskOf p x → cells p.shape ≤ 1024 → cells (vector_of p.shape).of ≤ 1024
    → Holds p.shape (lengths (shown x.state)) → Holds p.shape (lengths (shown x.weights))
    → (ring : Ring) → task_lines ring x ≡ script_lines ring ls
task_same ls p x h k few narrow ok ok' Wrap = lines_same wraps wrap_value ls p h x k few narrow (λ n. n.number) ok ok'
task_same ls p x h k few narrow ok ok' Residue = lines_same residues residue_value ls p h x k few narrow (λ n. n.number) ok ok'

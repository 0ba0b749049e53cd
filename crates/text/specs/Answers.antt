-- What is written for a text: its first fault alone, or its steps and the pairings of its lanes. Assumes nothing.
use Rattle.std.specs.Prelude.{◌≡◌, ℕ, ◌≤◌, List, ◌++◌, length, drop, map, ℤ, Option, Some, None}
use Rattle.scalar.specs.Ops.{Ops}
use Rattle.scalar.specs.Modular.{wraps, residues}
use Rattle.shape.specs.Shapes.{cell}
use Rattle.shape.specs.declared.operand.TableShape.{TableShape}
use Rattle.steps.specs.States.{Lane}
use Rattle.steps.specs.Steps.{Step, fault}
use Rattle.steps.specs.Relations.{mapped}
use Rattle.exact.specs.Values.{wrap_value, residue_value}
use Rattle.exact.specs.Tasks.{paired_after, paired_before}
use Rattle.words.specs.declared.Memory.{Memory}
use Rattle.words.specs.declared.Memory.TheVariants.{D, E, U, V, P, Q}
use Rattle.reader.specs.declared.program.Ring.{Ring}
use Rattle.reader.specs.declared.program.Ring.TheVariants.{Wrap, Residue}
use Rattle.reader.specs.Grammar.{Line}
use Rattle.reader.specs.Said.{ring_in, shape_in, memory_shape, value_in, steps_in}
use Rattle.reader.specs.Judged.{judged}
use Rattle.text.specs.Lines.{fault_line, step_lines, lane_lines}

-- ---- what is written for the steps xs on lanes of a state s and of weights w, each meaning as its number

module _ {M : Type 0} (o : Ops M) (number : M → ℕ) (t : TableShape) (xs : List (Step M)) (s w : ℕ → Lane M) where
  -- lane b's pairing of the state at the end with the weights, and of the state with the weights carried back
  abbrev pub after : ℕ → ℕ
  after b = number (paired_after o t.rows t.cols xs (s b) (w b))

  abbrev pub before : ℕ → ℕ
  before b = number (paired_before o t.rows t.cols xs (s b) (w b))

  -- the number of each step, 0 where it is accepted, and both pairings of each lane
  abbrev pub run_lines : List ℕ
  run_lines = step_lines 0 (map (fault t.rows t.cols) xs) ++ lane_lines t.lanes after before

-- ---- what the lines ls say, where whole numbers have the meanings `value`

module _ {M : Type 0} (value : ℤ → M) (ls : List Line) where
  abbrev pub steps : List (Step M)
  steps = map (mapped value) (steps_in ls)

  -- what stands in column j and row i of lane b of a memory
  abbrev pub entry : Memory → ℕ → ℕ → ℕ → M
  entry m b j i = value (value_in ls m (cell (memory_shape (shape_in ls) m) b j i))

  -- lane b of the state, and of the weights
  abbrev pub state : ℕ → Lane M
  state b = record { table = entry D b; first = entry U b 0; second = entry V b 0 }

  abbrev pub weights : ℕ → Lane M
  weights b = record { table = entry E b; first = entry P b 0; second = entry Q b 0 }

-- ---- in either ring

abbrev pub script_lines : Ring → List Line → List ℕ
script_lines Wrap ls = run_lines wraps (λ m. m.number) (shape_in ls) (steps wrap_value ls) (state wrap_value ls) (weights wrap_value ls)
script_lines Residue ls = run_lines residues (λ m. m.number) (shape_in ls) (steps residue_value ls) (state residue_value ls) (weights residue_value ls)

abbrev pub lane_after : Ring → List Line → ℕ → ℕ
lane_after Wrap ls = after wraps (λ m. m.number) (shape_in ls) (steps wrap_value ls) (state wrap_value ls) (weights wrap_value ls)
lane_after Residue ls = after residues (λ m. m.number) (shape_in ls) (steps residue_value ls) (state residue_value ls) (weights residue_value ls)

abbrev pub lane_before : Ring → List Line → ℕ → ℕ
lane_before Wrap ls = before wraps (λ m. m.number) (shape_in ls) (steps wrap_value ls) (state wrap_value ls) (weights wrap_value ls)
lane_before Residue ls = before residues (λ m. m.number) (shape_in ls) (steps residue_value ls) (state residue_value ls) (weights residue_value ls)

-- ---- a text

abbrev pub lines_for : Option (ℕ × ℕ) → List Line → List ℕ
lines_for (Some f) ls = fault_line f.0 f.1
lines_for None ls = script_lines (ring_in ls) ls

-- the bytes that are written for a text
abbrev pub answer_of : List ℕ → List ℕ
answer_of text = lines_for (judged text).fault (judged text).lawful

-- n bytes were written over the front of old, those for the text, and all others stayed
pub record Answered (text old new : List ℕ) (n : ℕ) : Type 0 where
  pub count : n ≡ length (answer_of text)
  pub room : n ≤ 65536
  pub bytes : new ≡ answer_of text ++ drop n old

-- in every lane of a text that is no fault, both pairings are the same number
abbrev pub PairingsAgree : List ℕ → Type 0
PairingsAgree text = (judged text).fault ≡ None → (b : ℕ) → lane_after (ring_in (judged text).lawful) (judged text).lawful b ≡ lane_before (ring_in (judged text).lawful) (judged text).lawful b

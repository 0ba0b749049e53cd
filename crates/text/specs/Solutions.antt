-- What is written for a task that is solved in a ring, and the task that a program holds. Assumes nothing.
use Rattle.std.specs.Prelude.{◌≡◌, ℕ, ◌+◌, ◌*◌, List, take, ℤ, slice_range}
use Rattle.shape.specs.Shapes.{cells}
use Rattle.scalar.specs.Modular.{wraps, residues}
use Rattle.state.specs.Memory.{shown, lane_of}
use Rattle.sweep.specs.Sweeps.{steps_of}
use Rattle.exact.specs.Values.{wrap_value, residue_value}
use Rattle.exact.specs.Tasks.{Solved}
use Rattle.exact.specs.declared.task.Task.{Task}
use Rattle.words.specs.declared.Memory.{Memory}
use Rattle.words.specs.declared.Memory.TheVariants.{D, E, U, V, P, Q}
use Rattle.reader.specs.declared.program.Program.{Program}
use Rattle.reader.specs.declared.program.Ring.{Ring}
use Rattle.reader.specs.declared.program.Ring.TheVariants.{Wrap, Residue}
use Rattle.reader.specs.Held.{base}
use Rattle.text.specs.Answers.{run_lines}

-- the answers and the numbers are those of the task in the ring
abbrev pub SolvedIn : Ring → Task → List ℕ → List ℕ → List ℕ → Type 0
SolvedIn Wrap x ks ps qs = Solved wraps wrap_value (λ m. m.number) x ks ps qs
SolvedIn Residue x ks ps qs = Solved residues residue_value (λ m. m.number) x ks ps qs

abbrev pub task_lines : Ring → Task → List ℕ
task_lines Wrap x = run_lines wraps (λ m. m.number) x.shape (steps_of wrap_value x.script) (λ b. lane_of wrap_value wraps x.shape b (shown x.state)) (λ b. lane_of wrap_value wraps x.shape b (shown x.weights))
task_lines Residue x = run_lines residues (λ m. m.number) x.shape (steps_of residue_value x.script) (λ b. lane_of residue_value residues x.shape b (shown x.state)) (λ b. lane_of residue_value residues x.shape b (shown x.weights))

-- the first n values of a memory of a program
abbrev pub values_of : Program → Memory → ℕ → List ℤ
values_of p m n = slice_range p.cells (base m) (base m + n)

-- x has the program's shape and script, and its values, as many as the shape has cells and rows
pub record IsTaskOf (p : Program) (x : Task) : Type 0 where
  pub shape : x.shape ≡ p.shape
  pub steps : x.script.steps.now ≡ take p.taken p.steps
  pub numbers : x.script.numbers.now ≡ take p.used p.numbers
  pub indices : x.script.indices.now ≡ take p.listed p.indices
  pub table : x.state.table.now ≡ values_of p D (cells p.shape)
  pub first : x.state.first.now ≡ values_of p U (p.shape.rows * p.shape.lanes)
  pub second : x.state.second.now ≡ values_of p V (p.shape.rows * p.shape.lanes)
  pub table_weights : x.weights.table.now ≡ values_of p E (cells p.shape)
  pub first_weights : x.weights.first.now ≡ values_of p P (p.shape.rows * p.shape.lanes)
  pub second_weights : x.weights.second.now ≡ values_of p Q (p.shape.rows * p.shape.lanes)

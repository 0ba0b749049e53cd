-- What the lines of a text say together. Assumes nothing.
use Rattle.std.specs.Prelude.{ℕ, ◌+◌, cond, ◌&&◌, List, [], ◌∷◌, length, drop, ℤ, pos, Some, ◌==◌}
use Rattle.std.specs.List.{fold, flat_map}
use Rattle.shape.specs.Shapes.{cell as cell_of, whole}
use Rattle.shape.specs.declared.operand.TableShape.{TableShape}
use Rattle.steps.specs.Steps.{Step, given}
use Rattle.state.specs.declared.record.StepRecord.{StepRecord}
use Rattle.words.specs.declared.Memory.{Memory}
use Rattle.words.specs.declared.Memory.TheVariants.{D, E, U, V, P, Q}
use Rattle.reader.specs.declared.program.Ring.{Ring}
use Rattle.reader.specs.declared.program.Ring.TheVariants.{Wrap}
use Rattle.reader.specs.Grammar.{Line, is_table}
use Rattle.reader.specs.Grammar.Line.{ring, size, cell, step}

-- ---- the ring and the shape

abbrev pub ring_after : Ring → Line → Ring
ring_after x (ring y) = y
ring_after x (size r c n) = x
ring_after x (cell m b j i v) = x
ring_after x (step k ns is) = x

abbrev pub ring_in : List Line → Ring
ring_in ls = fold ring_after Wrap ls

abbrev pub shape_of : ℕ → ℕ → ℕ → TableShape
shape_of r c n = record { rows = r; cols = c; lanes = n }

abbrev pub shape_after : TableShape → Line → TableShape
shape_after t (ring y) = t
shape_after t (size r c n) = shape_of r c n
shape_after t (cell m b j i v) = t
shape_after t (step k ns is) = t

-- before a size is given, the shape of no cells
abbrev pub shape_in : List Line → TableShape
shape_in ls = fold shape_after (shape_of 0 0 1) ls

-- ---- the cells

-- the number of a memory: they lie in this order
abbrev pub memory_number : Memory → ℕ
memory_number D = 0
memory_number E = 1
memory_number U = 2
memory_number V = 3
memory_number P = 4
memory_number Q = 5

-- the shape of a memory: a vector is a table of one column
abbrev pub memory_shape : TableShape → Memory → TableShape
memory_shape t m = cond (is_table m) t (whole t.rows t.lanes).of

-- the value at place k of memory m, where it was w, after a line
abbrev pub value_after : TableShape → Memory → ℕ → ℤ → Line → ℤ
value_after t m k w (ring y) = w
value_after t m k w (size r c n) = w
value_after t m k w (cell m' b j i v) = cond (memory_number m' == memory_number m && cell_of (memory_shape t m') b j i == k) v w
value_after t m k w (step d ns is) = w

-- the value at place k of memory m: that of the latest line behind the ring and the size that names the cell there, 0 where none does
abbrev pub value_in : List Line → Memory → ℕ → ℤ
value_in ls m k = fold (value_after (shape_in ls) m k) (pos 0) (drop 2 ls)

-- ---- the script

abbrev pub steps_of : Line → List (Step ℤ)
steps_of (ring y) = []
steps_of (size r c n) = []
steps_of (cell m b j i v) = []
steps_of (step k ns is) = record { kind = k; numbers = Some ns; list = Some is } ∷ []

abbrev pub numbers_of : Line → List ℤ
numbers_of (ring y) = []
numbers_of (size r c n) = []
numbers_of (cell m b j i v) = []
numbers_of (step k ns is) = ns

abbrev pub indices_of : Line → List ℕ
indices_of (ring y) = []
indices_of (size r c n) = []
indices_of (cell m b j i v) = []
indices_of (step k ns is) = is

abbrev pub steps_in : List Line → List (Step ℤ)
steps_in ls = flat_map steps_of ls

abbrev pub numbers_in : List Line → List ℤ
numbers_in ls = flat_map numbers_of ls

abbrev pub indices_in : List Line → List ℕ
indices_in ls = flat_map indices_of ls

-- a step's record, its numbers from place n on and its list from place i on
abbrev pub record_at : ℕ → ℕ → Step ℤ → StepRecord
record_at n i x = record { kind = x.kind; numbers_at = n; number_count = length (given x.numbers); list_at = i; list_count = length (given x.list) }

-- the records of steps whose numbers and lists follow one another, from places n and i on
abbrev pub records_from : ℕ → ℕ → List (Step ℤ) → List StepRecord
records_from n i [] = []
records_from n i (x ∷ xs) = record_at n i x ∷ records_from (n + length (given x.numbers)) (i + length (given x.list)) xs

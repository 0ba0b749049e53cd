-- The lines of a text judged in order: the lawful ones, and the first fault. Assumes nothing.
use Rattle.std.specs.Prelude.{ℕ, ◌+◌, ◌*◌, Bool, cond, not, ◌&&◌, ◌||◌, List, [], ◌∷◌, ◌++◌, length, Some, None, Ok, Err, Option, Result, ◌==◌, nat_le, nat_lt}
use Rattle.lex.specs.Lines.{lines, fields}
use Rattle.shape.specs.Refusals.{first_of, number_of}
use Rattle.shape.specs.Shapes.{cells, no_lanes, too_large}
use Rattle.shape.specs.declared.operand.TableShape.{TableShape}
use Rattle.reader.specs.declared.program.Fault.{Fault}
use Rattle.reader.specs.Grammar.{Line, line_of}
use Rattle.reader.specs.Grammar.Line.{ring, size, cell, step}
use Rattle.reader.specs.Said.{shape_of, shape_in, memory_shape, steps_in, numbers_in, indices_in}

-- the ring and the size are there
abbrev pub sized : List Line → Bool
sized ls = nat_le 2 (length ls)

-- a table or a vector of the shape has more cells than a text may have
abbrev pub too_many_cells : TableShape → Bool
too_many_cells t = nat_lt 1024 (cells t) || nat_lt 1024 (t.rows * t.lanes)

-- row i of column j of lane b is a cell of the shape
abbrev pub inside : TableShape → ℕ → ℕ → ℕ → Bool
inside t b j i = nat_lt b t.lanes && (nat_lt j t.cols && nat_lt i t.rows)

-- one step more, with so many numbers and indices, passes 64 steps, 1,024 numbers or 1,024 indices
abbrev pub passes_limit : List Line → ℕ → ℕ → Bool
passes_limit ls numbers indices = nat_lt 64 (length (steps_in ls) + 1) || (nat_lt 1024 (length (numbers_in ls) + numbers) || nat_lt 1024 (length (indices_in ls) + indices))

-- the tests of a line that stands after the lawful lines ls, the lowest number first. 13: it is not its turn
abbrev pub tests : List Line → Line → List (ℕ × Bool)
tests ls (ring x) = (13, not (length ls == 0)) ∷ []
tests ls (size r c n) = (1, no_lanes (shape_of r c n)) ∷ (2, too_large (shape_of r c n)) ∷ (13, not (length ls == 1)) ∷ (14, too_many_cells (shape_of r c n)) ∷ []
tests ls (cell m b j i v) = (10, sized ls && not (inside (memory_shape (shape_in ls) m) b j i)) ∷ (13, not (sized ls) || nat_lt 0 (length (steps_in ls))) ∷ []
tests ls (step k ns is) = (13, not (sized ls)) ∷ (14, passes_limit ls (length ns) (length is)) ∷ []

-- the number of a line's fault, 0 where it has none; a line of no stated form is 13
abbrev pub fault_after : List Line → Option Line → ℕ
fault_after ls None = 13
fault_after ls (Some x) = first_of (tests ls x)

-- ls with the line x
abbrev pub with : List Line → Option Line → List Line
with ls None = ls
with ls (Some x) = ls ++ x ∷ []

-- the lawful lines at a text's beginning, and the line, from 1, and the number of the first fault
pub record Judged : Type 0 where
  pub lawful : List Line
  pub fault : Option (ℕ × ℕ)

-- at the end of a text the ring and the size must be there
abbrev pub ended : List Line → Judged
ended ls = record { lawful = ls; fault = cond (sized ls) None (Some (length ls + 1, 13)) }

-- the lines ts after the lawful lines ls
abbrev pub judged_from : List Line → List (List ℕ) → Judged
judged_from ls [] = ended ls
judged_from ls (t ∷ ts) = cond (fault_after ls (line_of (fields t)) == 0) (judged_from (with ls (line_of (fields t))) ts) (record { lawful = ls; fault = Some (length ls + 1, fault_after ls (line_of (fields t))) })

-- a text; of more than 16,384 bytes no line is judged
abbrev pub judged : List ℕ → Judged
judged text = cond (nat_lt 16384 (length text)) (record { lawful = []; fault = Some (0, 14) }) (judged_from [] (lines text))

-- the fault of an answer
abbrev pub fault_of : {A : Type 0} → Result A Fault → Option (ℕ × ℕ)
fault_of (Ok x) = None
fault_of (Err f) = Some (f.line, number_of f.refusal)

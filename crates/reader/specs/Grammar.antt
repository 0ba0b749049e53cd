-- What a line of a text is: a word, and behind it the fields that the word asks for. Assumes nothing.
use Rattle.std.specs.Prelude.{◌≡◌, ℕ, Bool, true, false, cond, ◌&&◌, List, [], ◌∷◌, length, take, drop, ℤ, pos, Some, None, codes, Option, ◌==◌, nat_le, slice_index, slice_index_or, ◌≢◌}
use Rattle.std.specs.Str.{bytes_eq}
use Rattle.lex.specs.Numbers.{all, plain_of, value_of}
use Rattle.steps.specs.declared.kind.Kind.{Kind}
use Rattle.steps.specs.declared.kind.Kind.TheVariants as kind
use Rattle.words.specs.declared.Memory.{Memory}
use Rattle.words.specs.declared.Memory.TheVariants.{D, E, U, V, P, Q}
use Rattle.words.specs.declared.StepWord.{StepWord}
use Rattle.words.specs.declared.StepWord.TheVariants.{Update, Cols, SumCol, AddCol, SetCol, Axpy, Copy, Scale, Gather, Scatter}
use Rattle.words.specs.declared.Word.{Word}
use Rattle.words.specs.declared.Word.TheVariants.{Ring, Size, Cell, Step}
use Rattle.words.specs.Words.{word_for}
use Rattle.reader.specs.declared.program.Ring.{Ring as RingName}
use Rattle.reader.specs.declared.program.Ring.TheVariants.{Wrap, Residue}

-- a ring; rows, columns and lanes; a memory with lane, column (0 in a vector) and row, and the value there;
-- a step with its numbers and its list
pub data Line : Type 0 where
  ring : RingName → Line
  size : ℕ → ℕ → ℕ → Line
  cell : Memory → ℕ → ℕ → ℕ → ℤ → Line
  step : Kind → List ℤ → List ℕ → Line

-- ---- what each word asks for

abbrev pub ring_spelling : RingName → List ℕ
ring_spelling Wrap = codes "wrap"
ring_spelling Residue = codes "residue"

-- x is the ring that the bytes name; or none, and then they name no ring
abbrev pub IsRing : List ℕ → Option RingName → Type 0
IsRing bytes (Some x) = bytes ≡ ring_spelling x
IsRing bytes None = (x : RingName) → bytes ≢ ring_spelling x

-- the memories that are tables: their cells have a column
abbrev pub is_table : Memory → Bool
is_table D = true
is_table E = true
is_table U = false
is_table V = false
is_table P = false
is_table Q = false

-- lane, column and row of a table's cell; lane and row of a vector's
abbrev pub place_fields : Memory → ℕ
place_fields m = cond (is_table m) 3 2

-- the plain numbers that a step begins with
abbrev pub plain_fields : StepWord → ℕ
plain_fields Update = 1
plain_fields Cols = 1
plain_fields SumCol = 2
plain_fields AddCol = 1
plain_fields SetCol = 1
plain_fields Axpy = 0
plain_fields Copy = 0
plain_fields Scale = 0
plain_fields Gather = 0
plain_fields Scatter = 0

-- whether n values may follow them: M, any count; a, b and x, any count; a and b; a
abbrev pub takes : StepWord → ℕ → Bool
takes Update n = n == 0
takes Cols n = true
takes SumCol n = nat_le 2 n
takes AddCol n = n == 0
takes SetCol n = n == 0
takes Axpy n = n == 2
takes Copy n = n == 0
takes Scale n = n == 1
takes Gather n = n == 0
takes Scatter n = n == 0

-- the words that a list of plain numbers follows, of any count
abbrev pub takes_list : StepWord → Bool
takes_list Update = false
takes_list Cols = false
takes_list SumCol = false
takes_list AddCol = false
takes_list SetCol = false
takes_list Axpy = false
takes_list Copy = false
takes_list Scale = false
takes_list Gather = true
takes_list Scatter = true

-- the kind of step of a word and its plain numbers
abbrev pub kind_of : StepWord → List ℕ → Kind
kind_of Update ps = kind.Update (slice_index ps 0)
kind_of Cols ps = kind.Cols (slice_index ps 0)
kind_of SumCol ps = kind.SumCol (slice_index ps 0) (slice_index ps 1)
kind_of AddCol ps = kind.AddCol (slice_index ps 0)
kind_of SetCol ps = kind.SetCol (slice_index ps 0)
kind_of Axpy ps = kind.Axpy
kind_of Copy ps = kind.Copy
kind_of Scale ps = kind.Scale
kind_of Gather ps = kind.Gather
kind_of Scatter ps = kind.Scatter

-- ---- the line of a word and what its fields spell, none where a field spells nothing or their count is wrong

abbrev pub ring_line : List (List ℕ) → Option Line
ring_line [] = None
ring_line (f ∷ []) = cond (bytes_eq f (ring_spelling Wrap)) (Some (ring Wrap)) (cond (bytes_eq f (ring_spelling Residue)) (Some (ring Residue)) None)
ring_line (f ∷ g ∷ fs) = None

abbrev pub size_line : Option (List ℕ) → Option Line
size_line None = None
size_line (Some ps) = cond (length ps == 3) (Some (size (slice_index ps 0) (slice_index ps 1) (slice_index ps 2))) None

abbrev pub cell_at : Memory → List ℕ → ℤ → Line
cell_at m ps v = cond (is_table m) (cell m (slice_index ps 0) (slice_index ps 1) (slice_index ps 2) v) (cell m (slice_index ps 0) 0 (slice_index ps 1) v)

abbrev pub cell_line : Memory → Option (List ℕ) → Option (List ℤ) → Option Line
cell_line m None vs = None
cell_line m (Some ps) None = None
cell_line m (Some ps) (Some vs) = cond (length ps == place_fields m && length vs == 1) (Some (cell_at m ps (slice_index_or vs 0 (pos 0)))) None

abbrev pub list_line : StepWord → Option (List ℕ) → Option Line
list_line w None = None
list_line w (Some is) = Some (step (kind_of w []) [] is)

abbrev pub value_line : StepWord → Option (List ℕ) → Option (List ℤ) → Option Line
value_line w None vs = None
value_line w (Some ps) None = None
value_line w (Some ps) (Some vs) = cond (length ps == plain_fields w && takes w (length vs)) (Some (step (kind_of w ps) vs [])) None

abbrev pub step_line : StepWord → List (List ℕ) → Option Line
step_line w fs = cond (takes_list w) (list_line w (all plain_of fs)) (value_line w (all plain_of (take (plain_fields w) fs)) (all value_of (drop (plain_fields w) fs)))

-- the line of a word and the fields behind it
abbrev pub worded : Option Word → List (List ℕ) → Option Line
worded None fs = None
worded (Some Ring) fs = ring_line fs
worded (Some Size) fs = size_line (all plain_of fs)
worded (Some (Cell m)) fs = cell_line m (all plain_of (take (place_fields m) fs)) (all value_of (drop (place_fields m) fs))
worded (Some (Step w)) fs = step_line w fs

-- the line that some fields are; none if they have no stated form
abbrev pub line_of : List (List ℕ) → Option Line
line_of [] = None
line_of (w ∷ fs) = worded (word_for w) fs

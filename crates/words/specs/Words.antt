-- The words of a text: how each is spelt, which word some bytes spell, and the number of a step's word. Assumes nothing.
use Rattle.std.specs.Prelude.{◌≡◌, ℕ, ◌<◌, cond, List, [], map, ◌∷◌, Some, None, Ok, Err, codes, Option, Result, ◌≢◌, slice_index_or}
use Rattle.std.specs.Str.{bytes_eq}
use Rattle.shape.specs.Refusals.{number_of}
use Rattle.shape.specs.declared.refusal.Refusal.{Refusal}
use Rattle.words.specs.declared.Memory.{Memory}
use Rattle.words.specs.declared.Memory.TheVariants.{D, E, U, V, P, Q}
use Rattle.words.specs.declared.StepWord.{StepWord}
use Rattle.words.specs.declared.StepWord.TheVariants.{Update, Cols, SumCol, AddCol, SetCol, Axpy, Copy, Scale, Gather, Scatter}
use Rattle.words.specs.declared.Word.{Word}
use Rattle.words.specs.declared.Word.TheVariants.{Ring, Size, Cell, Step}

abbrev pub memory_spelling : Memory → List ℕ
memory_spelling D = codes "d"
memory_spelling E = codes "e"
memory_spelling U = codes "u"
memory_spelling V = codes "v"
memory_spelling P = codes "p"
memory_spelling Q = codes "q"

abbrev pub step_spelling : StepWord → List ℕ
step_spelling Update = codes "update"
step_spelling Cols = codes "cols"
step_spelling SumCol = codes "sumcol"
step_spelling AddCol = codes "addcol"
step_spelling SetCol = codes "setcol"
step_spelling Axpy = codes "axpy"
step_spelling Copy = codes "copy"
step_spelling Scale = codes "scale"
step_spelling Gather = codes "gather"
step_spelling Scatter = codes "scatter"

abbrev pub spelling : Word → List ℕ
spelling Ring = codes "ring"
spelling Size = codes "size"
spelling (Cell m) = memory_spelling m
spelling (Step k) = step_spelling k

-- x is the word that the bytes spell; or none, and then they spell no word
abbrev pub IsWord : List ℕ → Option Word → Type 0
IsWord bytes (Some x) = bytes ≡ spelling x
IsWord bytes None = (x : Word) → bytes ≢ spelling x

-- the words of a head, of cells and of steps
abbrev pub words : List Word
words = Ring ∷ Size ∷ Cell D ∷ Cell E ∷ Cell U ∷ Cell V ∷ Cell P ∷ Cell Q
    ∷ Step Update ∷ Step Cols ∷ Step SumCol ∷ Step AddCol ∷ Step SetCol ∷ Step Axpy ∷ Step Copy ∷ Step Scale ∷ Step Gather ∷ Step Scatter ∷ []

-- the first of the words that the bytes spell
abbrev pub first_spelt : List Word → List ℕ → Option Word
first_spelt [] bytes = None
first_spelt (x ∷ xs) bytes = cond (bytes_eq bytes (spelling x)) (Some x) (first_spelt xs bytes)

-- the word that the bytes spell
abbrev pub word_for : List ℕ → Option Word
word_for bytes = first_spelt words bytes

-- the numbers of the ten kinds of steps
abbrev pub step_number : StepWord → ℕ
step_number Update = 0
step_number Cols = 1
step_number SumCol = 2
step_number AddCol = 3
step_number SetCol = 4
step_number Axpy = 5
step_number Copy = 6
step_number Scale = 7
step_number Gather = 8
step_number Scatter = 9

-- their words, each at its number
abbrev pub step_words : List (List ℕ)
step_words = map step_spelling (Update ∷ Cols ∷ SumCol ∷ AddCol ∷ SetCol ∷ Axpy ∷ Copy ∷ Scale ∷ Gather ∷ Scatter ∷ [])

-- the number of the step's word that the bytes spell; 13 where they spell none
abbrev pub IsKindNumber : List ℕ → Result ℕ Refusal → Type 0
IsKindNumber bytes (Ok n) = (n < 10) × (bytes ≡ slice_index_or step_words n [])
IsKindNumber bytes (Err f) = ((k : StepWord) → bytes ≢ step_spelling k) × (number_of f ≡ 13)

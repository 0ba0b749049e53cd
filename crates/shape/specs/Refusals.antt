-- The numbers and words of the refusals, and the first test that fits. Assumes nothing.
use Rattle.std.specs.Prelude.{ℕ, Bool, cond, List, [], ◌∷◌, Some, Ok, Err, codes, Option, Result}
use Rattle.shape.specs.declared.refusal.Refusal.{Refusal}
use Rattle.shape.specs.declared.refusal.Refusal.TheVariants.{NoLanes, TooLarge, Memory, NoColumn, TooMany, Numbers, Counts, Lanes, ListLength, Index, RootsDiffer, NoStep, Malformed, TextLimit}

abbrev pub number_of : Refusal → ℕ
number_of NoLanes = 1
number_of TooLarge = 2
number_of Memory = 3
number_of NoColumn = 4
number_of TooMany = 5
number_of Numbers = 6
number_of Counts = 7
number_of Lanes = 8
number_of ListLength = 9
number_of Index = 10
number_of RootsDiffer = 11
number_of NoStep = 12
number_of Malformed = 13
number_of TextLimit = 14

-- the number of an answer, 0 where the call is accepted
abbrev pub answer : {A : Type 0} → Result A Refusal → ℕ
answer (Ok x) = 0
answer (Err f) = number_of f

-- the tests of a call with their numbers, in order: the verdict is the number of the first that fits
abbrev pub first_of : List (ℕ × Bool) → ℕ
first_of [] = 0
first_of (t ∷ ts) = cond t.1 t.0 (first_of ts)

abbrev pub words_of : Refusal → Option (List ℕ)
words_of NoLanes = Some (codes "a shape has no lanes")
words_of TooLarge = Some (codes "a shape exceeds its limits")
words_of Memory = Some (codes "memory does not fit its shape")
words_of NoColumn = Some (codes "a column or range is outside the table")
words_of TooMany = Some (codes "too many columns or too high an order")
words_of Numbers = Some (codes "not the numbers that are needed")
words_of Counts = Some (codes "row or column counts differ")
words_of Lanes = Some (codes "lane counts do not broadcast")
words_of ListLength = Some (codes "a list has not its length")
words_of Index = Some (codes "an index is outside")
words_of RootsDiffer = Some (codes "the lanes' roots differ")
words_of NoStep = Some (codes "no step is left")
words_of Malformed = Some (codes "a line has none of the stated forms")
words_of TextLimit = Some (codes "a text exceeds its limits")

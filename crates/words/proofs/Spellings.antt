-- The relation of a word to its bytes is the search through the table.
use Rattle.std.proofs.Common.{◌≡◌, ℕ, List, [], ◌∷◌, Some, None, IsUtf8, Option, sym, refl, ap, ◌∙◌, subst, ⊎_elim}
use Rattle.std.specs.Str.{bytes_eq}
use Rattle.std.proofs.lemmas.Slice.Eq.{bytes_eq-Decides}
use Rattle.std.proofs.lemmas.Bool.{cases_Bool, cond-false}
use Rattle.words.specs.declared.Memory.TheVariants.{D, E, U, V, P, Q}
use Rattle.words.specs.declared.StepWord.TheVariants.{Update, Cols, SumCol, AddCol, SetCol, Axpy, Copy, Scale, Gather, Scatter}
use Rattle.words.specs.declared.Word.{Word}
use Rattle.words.specs.declared.Word.TheVariants.{Ring, Size, Cell, Step}
use Rattle.words.specs.Words.{spelling, IsWord, words, first_spelt, word_for}

none : (xs : List Word) (w : List ℕ) → ((x : Word) → w ≡ spelling x → ⊥) → None ≡ first_spelt xs w
none [] w h = refl
none (x ∷ xs) w h =
    ⊎_elim
    (λ t. absurd (h x ((bytes_eq-Decides w (spelling x)).0 t)))
    (λ f. none xs w h ∙ sym (cond-false (bytes_eq w (spelling x)) (Some x) (first_spelt xs w) f))
    (cases_Bool (bytes_eq w (spelling x)))

spelt : (x : Word) → Some x ≡ word_for (spelling x)
spelt Ring = refl
spelt Size = refl
spelt (Cell D) = refl
spelt (Cell E) = refl
spelt (Cell U) = refl
spelt (Cell V) = refl
spelt (Cell P) = refl
spelt (Cell Q) = refl
spelt (Step Update) = refl
spelt (Step Cols) = refl
spelt (Step SumCol) = refl
spelt (Step AddCol) = refl
spelt (Step SetCol) = refl
spelt (Step Axpy) = refl
spelt (Step Copy) = refl
spelt (Step Scale) = refl
spelt (Step Gather) = refl
spelt (Step Scatter) = refl

pub by_word : (w : List ℕ) (r : Option Word) → IsWord w r → r ≡ word_for w
by_word w None h = none words w h
by_word w (Some x) h = spelt x ∙ ap word_for (sym h)

text : (x : Word) → IsUtf8 (spelling x)
unfolding lib.Utf8.encode
text Ring = (spelling Ring, (refl, refl))
text Size = (spelling Size, (refl, refl))
text (Cell D) = (spelling (Cell D), (refl, refl))
text (Cell E) = (spelling (Cell E), (refl, refl))
text (Cell U) = (spelling (Cell U), (refl, refl))
text (Cell V) = (spelling (Cell V), (refl, refl))
text (Cell P) = (spelling (Cell P), (refl, refl))
text (Cell Q) = (spelling (Cell Q), (refl, refl))
text (Step Update) = (spelling (Step Update), (refl, refl))
text (Step Cols) = (spelling (Step Cols), (refl, refl))
text (Step SumCol) = (spelling (Step SumCol), (refl, refl))
text (Step AddCol) = (spelling (Step AddCol), (refl, refl))
text (Step SetCol) = (spelling (Step SetCol), (refl, refl))
text (Step Axpy) = (spelling (Step Axpy), (refl, refl))
text (Step Copy) = (spelling (Step Copy), (refl, refl))
text (Step Scale) = (spelling (Step Scale), (refl, refl))
text (Step Gather) = (spelling (Step Gather), (refl, refl))
text (Step Scatter) = (spelling (Step Scatter), (refl, refl))

-- bytes that are no text spell no word
pub no_text : (w : List ℕ) → (IsUtf8 w → ⊥) → None ≡ word_for w
no_text w h = by_word w None (λ x e. h (subst IsUtf8 (sym e) (text x)))

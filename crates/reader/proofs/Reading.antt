-- A text read line by line. Assumes nothing.
use Rattle.std.proofs.Common.{◌≡◌, ℕ, ◌+◌, ◌<◌, ◌≤◌, List, [], ◌∷◌, length, take, drop, Some, None, Ok, Err, Option, sym, refl, ap, ◌∙◌, arith, length-append, drop-drop}
use Rattle.std.specs.List.{between}
use Rattle.std.proofs.lemmas.List.{take_rest}
use Rattle.std.proofs.lemmas.Bool.{cond-true, cond-false, eq-eqb, ne_eqb, le-ltb}
use Rattle.lex.specs.Lines.{lines, fields, more, before}
use Rattle.lex.proofs.Parts.{lines_cut, fields_cut}
use Rattle.words.specs.declared.Word.{Word}
use Rattle.words.specs.Words.{word_for}
use Rattle.shape.specs.Refusals.{number_of}
use Rattle.shape.specs.declared.refusal.Refusal.{Refusal}
use Rattle.shape.proofs.Answered.{number_some}
use Rattle.reader.specs.declared.program.Program.{Program}
use Rattle.reader.specs.Grammar.{Line, worded, line_of}
use Rattle.reader.specs.Judged.{fault_after, with, judged_from, judged}
use Rattle.reader.specs.Held.{Held, Followed}

-- a line is that of its word and of what follows the word
module _ (line : List ℕ) (k : ℕ) (e : k ≡ before 9 line) where
  parted : fields line ≡ take k line ∷ more (between k (length line) line)
  parted = fields_cut line ∙ ap (λ (j : ℕ). take j line ∷ more (drop j line)) (sym e) ∙ ap (λ (t : List ℕ). take k line ∷ more t) (sym (take_rest line k))

  pub line_some : (w : Word) → word_for (take k line) ≡ Some w → line_of (fields line) ≡ worded (Some w) (more (between k (length line) line))
  line_some w h = ap line_of parted ∙ ap (λ (o : Option Word). worded o (more (between k (length line) line))) h

  pub line_none : word_for (take k line) ≡ None → line_of (fields line) ≡ None
  line_none h = ap line_of parted ∙ ap (λ (o : Option Word). worded o (more (between k (length line) line))) h

-- ---- a text

-- the lines so far are lawful and held, and judging the rest behind them is judging the whole
pub record ReadSoFar (text rest : List ℕ) (count : ℕ) (p : Program) : Type 0 where
  pub ls : List Line
  pub held : Held ls p
  pub counted : length ls ≡ count
  pub judging : judged_from [] (lines text) ≡ judged_from ls (lines rest)

pub start : (text : List ℕ) (p : Program) → Held [] p → ReadSoFar text text 0 p
start text p h = record { ls = []; held = h; counted = refl; judging = refl }

-- the rest at its first line
cut : (rest : List ℕ) (k : ℕ) → 0 < length rest → k ≡ before 10 rest → lines rest ≡ take k rest ∷ lines (drop (k + 1) rest)
cut [] k h e = absurd (omega arith)
cut (b ∷ bs) k h e = lines_cut b bs ∙ ap (λ (j : ℕ). take j (b ∷ bs) ∷ lines (drop (j + 1) (b ∷ bs))) (sym e)

pub next : {A : Type 0} (text rest : List ℕ) (count k : ℕ) (a : A) (p q : Program) (s : ReadSoFar text rest count p) → 0 < length rest → k ≡ before 10 rest
    → Followed {A = A} s.ls (line_of (fields (take k rest))) (Ok a) q → ReadSoFar text (drop (k + 1) rest) (count + 1) q
next text rest count k a p q s h e f =
    let x = line_of (fields (take k rest)) in
    record {
      ls = with s.ls x;
      held = f.held;
      counted = longer x f.number;
      judging = s.judging ∙ ap (judged_from s.ls) (cut rest k h e) ∙ cond-true _ _ _ (eq-eqb _ _ (sym f.number));
    }
  where
    longer : (x : Option Line) → 0 ≡ fault_after s.ls x → length (with s.ls x) ≡ count + 1
    longer None z = absurd (omega arith)
    longer (Some y) z = omega (arith, length-append s.ls (y ∷ []), s.counted)

-- the bytes behind the newline
pub behind : (rest after : List ℕ) (k : ℕ) → after ≡ drop 1 (between k (length rest) rest) → after ≡ drop (k + 1) rest
behind rest after k e = e ∙ ap (drop 1) (take_rest rest k) ∙ drop-drop 1 k rest

pub wrong : {A : Type 0} (text rest : List ℕ) (count k : ℕ) (r : Refusal) (p q : Program) (s : ReadSoFar text rest count p) → 0 < length rest → k ≡ before 10 rest
    → Followed {A = A} s.ls (line_of (fields (take k rest))) (Err r) q → judged_from [] (lines text) ≡ record { lawful = s.ls; fault = Some (count + 1, number_of r) }
wrong text rest count k r p q s h e f =
    s.judging ∙ ap (judged_from s.ls) (cut rest k h e) ∙ cond-false _ _ _ (ne_eqb _ _ (λ z. number_some r (f.number ∙ z)))
    ∙ ap (λ (n : ℕ). record { lawful = s.ls; fault = Some (n + 1, fault_after s.ls (line_of (fields (take k rest)))) }) s.counted
    ∙ ap (λ (n : ℕ). record { lawful = s.ls; fault = Some (count + 1, n) }) (sym f.number)

module _ (text : List ℕ) (le : length text ≤ 16384) where
  pub judged_is : judged text ≡ judged_from [] (lines text)
  judged_is = cond-false _ _ _ (le-ltb _ _ le)

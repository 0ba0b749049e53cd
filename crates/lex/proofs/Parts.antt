-- A text cut at its first newline, a line at its first tab.
use Rattle.std.proofs.Common.{◌≡◌, ℕ, suc, ◌+◌, ◌<◌, Bool, true, false, cond, eqb, List, [], ◌∷◌, length, get_or, take, drop, sym, refl, ap, ◌∙◌, add-one, one-add, arith}
use Rattle.std.proofs.lemmas.Bool.{eqb-true}
use Rattle.std.proofs.lemmas.Slice.{first_rest}
use Rattle.std.specs.List.{between}
use Rattle.lex.specs.Lines.{grown, lines, fields, more, before}

-- the step at one byte, for a number n that is 1 more than k
cut : (b : ℕ) (bs : List ℕ) (k n : ℕ) → n ≡ suc k → (b ∷ take k bs) ∷ lines (drop (k + 1) bs) ≡ take n (b ∷ bs) ∷ lines (drop (n + 1) (b ∷ bs))
cut b bs k n e = rw (e, add-one (suc k), add-one k)

pub lines_cut : (b : ℕ) (bs : List ℕ) → lines (b ∷ bs) ≡ take (before 10 (b ∷ bs)) (b ∷ bs) ∷ lines (drop (before 10 (b ∷ bs) + 1) (b ∷ bs))
lines_cut b [] = elim (eqb b 10) as (λ t. cond t ([] ∷ lines []) (grown b (lines [])) ≡ take (cond t 0 (1 + 0)) (b ∷ []) ∷ lines (drop (cond t 0 (1 + 0) + 1) (b ∷ []))) [ true ↦ refl | false ↦ refl ]
lines_cut b (b' ∷ bs) =
    let ih = lines_cut b' bs in
    elim (eqb b 10) as (λ t. cond t ([] ∷ lines (b' ∷ bs)) (grown b (lines (b' ∷ bs))) ≡ take (cond t 0 (1 + before 10 (b' ∷ bs))) (b ∷ b' ∷ bs) ∷ lines (drop (cond t 0 (1 + before 10 (b' ∷ bs)) + 1) (b ∷ b' ∷ bs)))
    [ true ↦ refl | false ↦ ap (grown b) ih ∙ cut b (b' ∷ bs) (before 10 (b' ∷ bs)) (1 + before 10 (b' ∷ bs)) (one-add _) ]

cut_field : (b : ℕ) (bs : List ℕ) (k n : ℕ) → n ≡ suc k → (b ∷ take k bs) ∷ more (drop k bs) ≡ take n (b ∷ bs) ∷ more (drop n (b ∷ bs))
cut_field b bs k n e = rw e

pub fields_cut : (bs : List ℕ) → fields bs ≡ take (before 9 bs) bs ∷ more (drop (before 9 bs) bs)
fields_cut [] = refl
fields_cut (b ∷ bs) =
    let ih = fields_cut bs in
    (
    elim (eqb b 9) as (λ t. eqb b 9 ≡ t → cond t ([] ∷ fields bs) (grown b (fields bs)) ≡ take (cond t 0 (1 + before 9 bs)) (b ∷ bs) ∷ more (drop (cond t 0 (1 + before 9 bs)) (b ∷ bs))) [
      | true ↦ λ e. ap (λ (z : Bool). [] ∷ cond z (fields bs) []) (sym e)
      | false ↦ λ e. ap (grown b) ih ∙ cut_field b bs (before 9 bs) (1 + before 9 bs) (one-add _)
    ]
    )
    refl

-- what begins with no tab has no field more
pub no_more : (left : List ℕ) → (get_or left 0 0 ≡ 9 → ⊥) → more left ≡ []
no_more [] h = refl
no_more (b ∷ bs) h =
    (elim (eqb b 9) as (λ t. eqb b 9 ≡ t → cond t (fields bs) [] ≡ []) [ true ↦ λ e. absurd (h (eqb-true b 9 e)) | false ↦ λ e. refl ]) refl

pub none_front : (left : List ℕ) → length left < 1 → get_or left 0 0 ≡ 9 → ⊥
none_front [] h e = omega arith
none_front (b ∷ bs) h e = omega arith

pub after_tab : (left : List ℕ) → 0 < length left → get_or left 0 0 ≡ 9 → left ≡ 9 ∷ between 1 (length left) left
after_tab left h m = first_rest left 0 h ∙ ap (λ (v : ℕ). v ∷ between 1 (length left) left) m

cut_more : (b : ℕ) (bs : List ℕ) (k n : ℕ) → n ≡ suc k → more (drop k bs) ≡ fields (drop (k + 1) bs) → more (drop n (b ∷ bs)) ≡ fields (drop (n + 1) (b ∷ bs))
cut_more b bs k n e h =
    let h' : more (drop k bs) ≡ fields (drop (suc k) bs) = h ∙ ap (λ (i : ℕ). fields (drop i bs)) (add-one k) in
    rw (e, add-one (suc k)) h'

-- the fields after the first, where there is a tab
pub more_after : (t : List ℕ) → before 9 t < length t → more (drop (before 9 t) t) ≡ fields (drop (before 9 t + 1) t)
more_after [] h = absurd (omega arith)
more_after (b ∷ bs) h =
    (
    elim (eqb b 9) as (λ y. eqb b 9 ≡ y → cond y 0 (1 + before 9 bs) < length (b ∷ bs) → more (drop (cond y 0 (1 + before 9 bs)) (b ∷ bs)) ≡ fields (drop (cond y 0 (1 + before 9 bs) + 1) (b ∷ bs))) [
      | true ↦ λ e lt. ap (λ (z : Bool). cond z (fields bs) []) e
      | false ↦ λ e lt. (let le : before 9 bs < length bs = omega arith in cut_more b bs (before 9 bs) (1 + before 9 bs) (one-add _) (more_after bs le))
    ]
    )
    refl h

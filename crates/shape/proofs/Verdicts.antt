-- What a verdict of 0 tells of the operands. Assumes nothing.
use Rattle.std.proofs.Common.{◌≡◌, ℕ, ◌<◌, Bool, true, false, cond, ◌&&◌, ◌||◌, ltb, List, [], ◌∷◌, refl, arith}
use Rattle.std.proofs.lemmas.Bool.{and_parts, or_parts, ltb-true, ltb-false, leb-false, eqb-true, eqb-false, not-false}
use Rattle.shape.specs.Shapes.{no_lanes, too_large, misfit, no_column, Fits, Lawful}
use Rattle.shape.specs.Refusals.{first_of}
use Rattle.shape.specs.Operands.{TwoLawful}
use Rattle.shape.specs.declared.operand.TableShape.{TableShape}
use Rattle.shape.specs.declared.operand.Column.{Column}

-- no test of the list fits
abbrev pub Clear : List (ℕ × Bool) → Type 0
Clear [] = Unit {0}
Clear (t ∷ ts) = (t.1 ≡ false) × Clear ts

-- no test has the number 0
abbrev pub numbered : List (ℕ × Bool) → Bool
numbered [] = true
numbered (t ∷ ts) = ltb 0 t.0 && numbered ts

passed : (n : ℕ) (t : Bool) (m : ℕ) → 0 < n → cond t n m ≡ 0 → (t ≡ false) × (m ≡ 0)
passed n true m h e = absurd (omega arith)
passed n false m h e = (refl, e)

pub clear : (ts : List (ℕ × Bool)) → numbered ts ≡ true → first_of ts ≡ 0 → Clear ts
clear [] k e = tt
clear (t ∷ ts) k e =
    let n = and_parts (ltb 0 t.0) (numbered ts) k in
    let p = passed t.0 t.1 (first_of ts) (ltb-true 0 t.0 n.0) e in
    (p.0, clear ts n.1 p.1)

pub fits_of : (t : TableShape) (len : ℕ) → no_lanes t ≡ false → too_large t ≡ false → misfit t len ≡ false → Fits t len
fits_of t len lanes large size =
    let none = eqb-false t.lanes 0 lanes in
    let tall = or_parts (ltb 65536 t.rows) (ltb 1024 t.cols || ltb 4096 t.lanes) large in
    let wide = or_parts (ltb 1024 t.cols) (ltb 4096 t.lanes) tall.1 in
    record {
      some = omega (arith, none);
      few_rows = ltb-false 65536 t.rows tall.0;
      few_cols = ltb-false 1024 t.cols wide.0;
      few_lanes = ltb-false 4096 t.lanes wide.1;
      size = eqb-true _ _ (not-false _ size);
    }

pub lawful_of : (v : Column) (len : ℕ) → no_lanes v.of ≡ false → too_large v.of ≡ false → misfit v.of len ≡ false → no_column v ≡ false → Lawful v len
lawful_of v len lanes large size col = record { fits = fits_of v.of len lanes large size; within = leb-false v.of.cols v.col col }

pub shapes_clear : (x : TableShape) (xl : ℕ) (y : TableShape) (yl : ℕ) → no_lanes x || no_lanes y ≡ false → too_large x || too_large y ≡ false → misfit x xl || misfit y yl ≡ false
    → Fits x xl × Fits y yl
shapes_clear x xl y yl p₁ p₂ p₃ =
    let lanes = or_parts (no_lanes x) (no_lanes y) p₁ in
    let large = or_parts (too_large x) (too_large y) p₂ in
    let size = or_parts (misfit x xl) (misfit y yl) p₃ in
    (fits_of x xl lanes.0 large.0 size.0, fits_of y yl lanes.1 large.1 size.1)

pub two_clear : (x : Column) (xl : ℕ) (y : Column) (yl : ℕ) → no_lanes x.of || no_lanes y.of ≡ false → too_large x.of || too_large y.of ≡ false
    → misfit x.of xl || misfit y.of yl ≡ false → no_column x || no_column y ≡ false → TwoLawful x xl y yl
two_clear x xl y yl p₁ p₂ p₃ p₄ =
    let lanes = or_parts (no_lanes x.of) (no_lanes y.of) p₁ in
    let large = or_parts (too_large x.of) (too_large y.of) p₂ in
    let size = or_parts (misfit x.of xl) (misfit y.of yl) p₃ in
    let cols = or_parts (no_column x) (no_column y) p₄ in
    record { source = lawful_of x xl lanes.0 large.0 size.0 cols.0; target = lawful_of y yl lanes.1 large.1 size.1 cols.1 }

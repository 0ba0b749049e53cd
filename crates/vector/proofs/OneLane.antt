-- A run lent as a vector of one lane: it passes the tests, and its rows are its places. Assumes nothing.
use Rattle.std.proofs.Common.{◌≡◌, ℕ, ◌*◌, ◌<◌, ◌≤◌, true, false, eqb, ltb, List, length, get_or, sym, refl, ◌∙◌, subst, arith, eq-eqb}
use Rattle.std.proofs.lemmas.Bool.{le-ltb}
use Rattle.shape.specs.Shapes.{whole, cell}
use Rattle.shape.specs.Refusals.{first_of}
use Rattle.shape.specs.Operands.{pair_tests}
use Rattle.shape.specs.declared.operand.Column.{Column}
use Rattle.elementwise.specs.Entrywise.{Entrywise}

pub one_passes : (r l m : ℕ) → r ≤ 65536 → l ≡ r → m ≡ r → first_of (pair_tests (whole r 1) l (whole r 1) m) ≡ 0
one_passes r l m few e f =
    let rows : ltb 65536 r ≡ false = le-ltb 65536 r few in
    let left : eqb l (r * 1 * 1) ≡ true = eq-eqb l (r * 1 * 1) (omega arith) in
    let right : eqb m (r * 1 * 1) ≡ true = eq-eqb m (r * 1 * 1) (omega arith) in
    let same : eqb r r ≡ true = eq-eqb r r refl in
    rw (rows, left, right, same)

pub one_cell : (r i : ℕ) → cell (whole r 1).of 0 0 i ≡ i
one_cell r i = omega arith

-- what an elementwise call on two such runs leaves, by place
pub one_lane : {S : Type 0} (R : S → S → S → Type 0) (lane : Column) (r number : ℕ) (xs old cur : List S) → lane ≡ whole r 1 → r ≤ 65536 → length xs ≡ r → length old ≡ r
    → number ≡ first_of (pair_tests lane (length xs) lane (length old)) → (number ≡ 0 → Entrywise lane xs lane R old cur) → (i : ℕ) (d : S) → i < r → R (get_or xs i d) (get_or old i d) (get_or cur i d)
one_lane R lane r number xs old cur is few l m verdict accepted i d h =
    let passes = subst (λ (v : Column). first_of (pair_tests v (length xs) v (length old)) ≡ 0) (sym is) (one_passes r (length xs) (length old) few l m) in
    let done = subst (λ (v : Column). Entrywise v xs v R old cur) is (accepted (verdict ∙ passes)) in
    let made = done.written 0 0 i d (record { lane = omega arith; col = omega arith; row = h }) refl d in
    let place = one_cell r i in
    rw place at made

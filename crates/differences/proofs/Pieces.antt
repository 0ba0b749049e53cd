-- A column of one lane, or some rows of it, as a run of memory: where it lies, and what is written and what is not. Assumes nothing.
use Rattle.std.proofs.Common.{◌≡◌, ℕ, ◌+◌, ◌-◌, ◌*◌, ◌<◌, ◌≤◌, ◌⊎◌, List, sym, ap, ◌∙◌, inl, inr, add-mul, mul-le-mul, arith}
use Rattle.std.proofs.lemmas.Bool.{cases_lt, cases_eq}
use Rattle.shape.specs.Shapes.{start, cell, column_of, In, Fits, Lawful}
use Rattle.shape.specs.Changes.{Changed, RunChanged, LaneBand}
use Rattle.shape.specs.declared.operand.TableShape.{TableShape}
use Rattle.shape.specs.declared.operand.Column.{Column}
use Rattle.shape.proofs.Blocks.{band_apart}

-- within the limits of a shape a place is far below 2^64
pub start_small : (t : TableShape) (len b c : ℕ) → Fits t len → b < t.lanes → c ≤ t.cols → start t b c ≤ 274945015808
start_small t len b c fits lane col =
    let lanes : b * t.cols ≤ 4096 * 1024 = mul-le-mul {n₂ = 4096} {m₂ = 1024} (omega (arith, fits.few_lanes)) fits.few_cols in
    mul-le-mul {n₂ = 4096 * 1024 + 1024} {m₂ = 65536} (omega (arith, fits.few_cols)) fits.few_rows

-- after the calls of `column` and `start`
pub column_start : (t : TableShape) (len b j a : ℕ) (v : Column) → v ≡ column_of t j → ((n : ℕ) → Lawful v n → b < v.of.lanes → a ≡ start v.of b v.col)
    → Fits t len → b < t.lanes → j < t.cols → a ≡ start t b j
column_start t len b j a v is starts fits lane col = (rw is at starts) len (record { fits = fits; within = col }) lane

pub start_next : (t : TableShape) (b j : ℕ) → start t b (j + 1) ≡ start t b j + t.rows
start_next t b j =
    let e : b * t.cols + (j + 1) ≡ b * t.cols + j + 1 = omega arith in
    ap (λ q. q * t.rows) e ∙ add-mul (b * t.cols + j) 1 t.rows ∙ omega arith

-- h rows from row r on of column c of lane l
abbrev pub InPiece : ℕ → ℕ → ℕ → ℕ → ℕ → ℕ → ℕ → Type 0
InPiece l c r h b j i = (b ≡ l) × (j ≡ c) × (r ≤ i) × (i < r + h)

same_column : (t : TableShape) (l c b j i : ℕ) → b ≡ l → j ≡ c → cell t b j i ≡ cell t l c i
same_column t l c b j i lane col = ap (λ z. cell t z j i) lane ∙ ap (λ z. cell t l z i) col

-- a cell outside lies before the run or after
piece_apart : (t : TableShape) (l c r h b j i : ℕ) → r + h ≤ t.rows → c < t.cols → In t b j i → (InPiece l c r h b j i → ⊥)
    → (cell t b j i < cell t l c r) ⊎ (cell t l c r + h ≤ cell t b j i)
piece_apart t l c r h b j i rows col w out = elim (cases_eq b l) [
  | inl lane ↦ elim (cases_eq j c) [
    | inl column ↦
        let q = same_column t l c b j i lane column in
        elim (cases_lt i r) [
          | inl before ↦ inl (omega arith)
          | inr from ↦ elim (cases_lt i (r + h)) [ inl inside ↦ absurd (out (lane, column, from, inside)) | inr after ↦ inr (omega arith) ]
        ]
    | inr ne ↦ elsewhere (λ z. omega arith)
  ]
  | inr ne ↦ elsewhere (λ z. ne z.0)
]
  where
    elsewhere : (LaneBand l c 1 b j i → ⊥) → (cell t b j i < cell t l c r) ⊎ (cell t l c r + h ≤ cell t b j i)
    elsewhere far = elim (band_apart t l c 1 b j i (omega arith) w.col w.row far) [ inl low ↦ inl (omega arith) | inr high ↦ inr (omega arith) ]

pub piece_changed : {S : Type 0} (t : TableShape) (l c r h a : ℕ) (P : ℕ → S → Type 0) (cur cur' : List S) → a ≡ cell t l c r → r + h ≤ t.rows → c < t.cols
    → RunChanged a h P cur cur' → Changed t (InPiece l c r h) (λ b j i. P (i - r)) cur cur'
piece_changed t l c r h a P cur cur' at_a rows col wrote = record {
  written = λ b j i d w k.
      let q = same_column t l c b j i k.0 k.1 in
      let place : a + (i - r) ≡ cell t b j i = omega arith in
      rw (sym place) (wrote.written (i - r) d (omega arith));
  kept = λ b j i d w out. wrote.kept (cell t b j i) d (rw at_a (piece_apart t l c r h b j i rows col w out));
}

-- a whole column
pub column_changed : {S : Type 0} (t : TableShape) (l c a : ℕ) (P : ℕ → S → Type 0) (cur cur' : List S) → a ≡ start t l c → c < t.cols
    → RunChanged a t.rows P cur cur' → Changed t (LaneBand l c 1) (λ b j i. P i) cur cur'
column_changed t l c a P cur cur' at_a col wrote = record {
  written = λ b j i d w h.
      let column : j ≡ c = omega arith in
      let q = same_column t l c b j i h.0 column in
      let place : a + i ≡ cell t b j i = omega arith in
      rw (sym place) (wrote.written i d w.row);
  kept = λ b j i d w out. wrote.kept (cell t b j i) d
      (elim (band_apart t l c 1 b j i (omega arith) w.col w.row out) [ inl low ↦ inl (omega arith) | inr high ↦ inr (omega arith) ]);
}

-- The first places of every lane of a table, written lane by lane. Assumes nothing.
use Rattle.std.proofs.Common.{◌≡◌, ℕ, ◌+◌, ◌*◌, ◌<◌, ◌≤◌, List, sym, ap, ◌∙◌, inl, inr, mul_comm, arith}
use Rattle.std.proofs.lemmas.Bool.{cases_eq}
use Rattle.shape.specs.Shapes.{start, cell, In, Fits}
use Rattle.shape.specs.Changes.{Changed, RunChanged}
use Rattle.shape.specs.declared.operand.TableShape.{TableShape}
use Rattle.shape.proofs.Blocks.{band_fits, band_apart, cell_from}
use Rattle.shape.proofs.Cells.{changed_more}
use Rattle.index.specs.Tables.{lane_cells, InFirst}

-- the cells of lane b lie in the memory
pub lane_fits : (t : TableShape) (len b : ℕ) → Fits t len → b < t.lanes → start t b 0 + lane_cells t ≤ len
lane_fits t len b h l = let f = band_fits t len b 0 t.cols h l (omega arith) in omega (arith, mul_comm t.rows t.cols)

-- place j·r + i of a lane is cell (i, j)
pub lane_place : (t : TableShape) (b j i a : ℕ) → a ≡ start t b 0 → a + (j * t.rows + i) ≡ cell t b j i
lane_place t b j i a e = ap (λ z. z + (j * t.rows + i)) e ∙ cell_from t b 0 j i ∙ ap (λ z. cell t b z i) (omega arith)

-- the same of the lanes below m
abbrev pub LanesFirst : ℕ → ℕ → ℕ → ℕ → ℕ → ℕ → Type 0
LanesFirst m r n b j i = (b < m) × InFirst r n b j i

abbrev LaneFirst : ℕ → ℕ → ℕ → ℕ → ℕ → ℕ → Type 0
LaneFirst l r n b j i = (b ≡ l) × InFirst r n b j i

module _ {S : Type 0} (t : TableShape) (n : ℕ) where
  -- a written run is the first places of one lane
  run_changed : (l a : ℕ) (P : ℕ → S → Type 0) (cur cur' : List S) → a ≡ start t l 0 → n ≤ lane_cells t → RunChanged a n P cur cur'
      → Changed t (LaneFirst l t.rows n) (λ b j i. P (j * t.rows + i)) cur cur'
  run_changed l a P cur cur' at_a short wrote = record {
    written = λ b j i d w h.
        let place : a + (j * t.rows + i) ≡ cell t b j i = lane_place t l j i a at_a ∙ ap (λ z. cell t z j i) (sym h.0) in
        rw (sym place) (wrote.written (j * t.rows + i) d h.1);
    kept = λ b j i d w out. wrote.kept (cell t b j i) d (elim (cases_eq b l) [
      | inl same ↦
          let place : a + (j * t.rows + i) ≡ cell t b j i = lane_place t l j i a at_a ∙ ap (λ z. cell t z j i) (sym same) in
          let past : n ≤ j * t.rows + i = past_of (j * t.rows + i) (λ h. out (same, h)) in
          inr (omega arith)
      | inr other ↦ elim (band_apart t l 0 t.cols b j i (omega arith) w.col w.row (λ h. other h.0)) [
        | inl before ↦ inl (omega arith)
        | inr after ↦ inr (omega (arith, mul_comm t.rows t.cols))
      ]
    ]);
  }
    where
      past_of : (p : ℕ) → (p < n → ⊥) → n ≤ p
      past_of p h = omega arith

  pub firsts_more : (l a : ℕ) (P : ℕ → ℕ → ℕ → S → Type 0) (Q : ℕ → S → Type 0) (old cur cur' : List S) → a ≡ start t l 0 → n ≤ lane_cells t
      → ((j i : ℕ) (v : S) → In t l j i → InFirst t.rows n l j i → Q (j * t.rows + i) v → P l j i v)
      → Changed t (LanesFirst l t.rows n) P old cur → RunChanged a n Q cur cur' → Changed t (LanesFirst (l + 1) t.rows n) P old cur'
  firsts_more l a P Q old cur cur' at_a short agree before wrote =
      changed_more t (LanesFirst l t.rows n) (LaneFirst l t.rows n) (LanesFirst (l + 1) t.rows n) P (λ b j i. Q (j * t.rows + i)) old cur cur'
      (λ b j i w h. elim (cases_eq b l) [ inl e ↦ inl (e, h.1) | inr ne ↦ inr ((λ x. ne x.0), (omega arith, h.1)) ])
      (λ b j i h. (omega arith, h.1))
      (λ b j i w h. (omega arith, h.1))
      (λ b j i v w h q. rw h.0 (agree j i v (record { lane = omega (arith, w.lane); col = w.col; row = w.row }) h.1 q))
      before
      (run_changed l a Q cur cur' at_a short wrote)

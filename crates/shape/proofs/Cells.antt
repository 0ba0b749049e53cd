-- Memories that differ in named cells: writes after one another. Assumes nothing.
use Rattle.std.proofs.Common.{◌≡◌, ℕ, ◌+◌, ◌-◌, ◌*◌, ◌<◌, ◌≤◌, ◌⊎◌, List, sym, ap, ◌∙◌, inl, inr, arith}
use lib.Arith.{digits_lt}
use Rattle.shape.specs.Shapes.{start, cell, In}
use Rattle.std.proofs.lemmas.Bool.{cases_eq}
use Rattle.shape.specs.Changes.{Changed, RunChanged, InColumn, InBand, LaneBand, LanesBand}
use Rattle.shape.specs.declared.operand.TableShape.{TableShape}
use Rattle.shape.proofs.Blocks.{band_apart, cell_from}

module _ {S : Type 0} (t : TableShape) where
  -- the cells of D and then those of E make those of D'
  pub changed_more : (D E D' : ℕ → ℕ → ℕ → Type 0) (P Q : ℕ → ℕ → ℕ → S → Type 0) (old cur cur' : List S)
      → ((b j i : ℕ) → In t b j i → D' b j i → E b j i ⊎ ((E b j i → ⊥) × D b j i))
      → ((b j i : ℕ) → D b j i → D' b j i)
      → ((b j i : ℕ) → In t b j i → E b j i → D' b j i)
      → ((b j i : ℕ) (v : S) → In t b j i → E b j i → Q b j i v → P b j i v)
      → Changed t D P old cur → Changed t E Q cur cur' → Changed t D' P old cur'
  changed_more D E D' P Q old cur cur' split from-D from-E agree before wrote = record {
    written = λ b j i d w h. elim (split b j i w h) [
      | inl e ↦ agree b j i _ w e (wrote.written b j i d w e)
      | inr r ↦ rw (wrote.kept b j i d w r.0) (before.written b j i d w r.1)
    ];
    kept = λ b j i d w n. wrote.kept b j i d w (λ e. n (from-E b j i w e)) ∙ before.kept b j i d w (λ h. n (from-D b j i h));
  }

  -- the same cells and values under other names
  pub changed_as : (D D' : ℕ → ℕ → ℕ → Type 0) (P Q : ℕ → ℕ → ℕ → S → Type 0) (old cur : List S)
      → ((b j i : ℕ) → In t b j i → D b j i → D' b j i) → ((b j i : ℕ) → In t b j i → D' b j i → D b j i)
      → ((b j i : ℕ) (v : S) → In t b j i → D b j i → P b j i v → Q b j i v)
      → Changed t D P old cur → Changed t D' Q old cur
  changed_as D D' P Q old cur to from agree c = record {
    written = λ b j i d w h. agree b j i _ w (from b j i w h) (c.written b j i d w (from b j i w h));
    kept = λ b j i d w n. c.kept b j i d w (λ h. n (to b j i w h));
  }

  -- a written run is a band of one lane
  pub band_changed : (l c n a : ℕ) (P : ℕ → S → Type 0) (cur cur' : List S) → a ≡ start t l c → c + n ≤ t.cols → RunChanged a (n * t.rows) P cur cur'
      → Changed t (LaneBand l c n) (λ b j i. P ((j - c) * t.rows + i)) cur cur'
  band_changed l c n a P cur cur' at_a within wrote = record {
    written = λ b j i d w h.
        let e : c + (j - c) ≡ j = omega arith in
        let place : a + ((j - c) * t.rows + i) ≡ cell t b j i =
        ap (λ z. z + ((j - c) * t.rows + i)) at_a ∙ cell_from t l c (j - c) i ∙ ap (λ z. cell t l z i) e ∙ ap (λ z. cell t z j i) (sym h.0) in
        rw (sym place) (wrote.written ((j - c) * t.rows + i) d (digits_lt (omega arith) w.row));
    kept = λ b j i d w n'. wrote.kept (cell t b j i) d (rw at_a (band_apart t l c n b j i within w.col w.row n'));
  }

  -- ---- a loop over the lanes, a band a lane

  -- the lanes below l, and then lane l
  pub lane_more : (l c n : ℕ) (P Q : ℕ → ℕ → ℕ → S → Type 0) (old cur cur' : List S)
      → ((j i : ℕ) (v : S) → In t l j i → c ≤ j → j < c + n → Q l j i v → P l j i v)
      → Changed t (LanesBand l c n) P old cur → Changed t (LaneBand l c n) Q cur cur' → Changed t (LanesBand (l + 1) c n) P old cur'
  lane_more l c n P Q old cur cur' agree =
      changed_more (LanesBand l c n) (LaneBand l c n) (LanesBand (l + 1) c n) P Q old cur cur'
      (λ b j i w h. elim (cases_eq b l) [ inl e ↦ inl (e, h.1, h.2) | inr ne ↦ inr ((λ x. ne x.0), (omega arith, h.1, h.2)) ])
      (λ b j i h. (omega arith, h.1, h.2))
      (λ b j i w h. (omega arith, h.1, h.2))
      (λ b j i v w h q. rw h.0 (agree j i v (record { lane = omega (arith, w.lane); col = w.col; row = w.row }) h.1 h.2 (rw h.0 at q)))

  pub lanes_more : (l c n a : ℕ) (P : ℕ → ℕ → ℕ → S → Type 0) (Q : ℕ → S → Type 0) (old cur cur' : List S) → a ≡ start t l c → c + n ≤ t.cols
      → ((j i : ℕ) (v : S) → In t l j i → c ≤ j → j < c + n → Q ((j - c) * t.rows + i) v → P l j i v)
      → Changed t (LanesBand l c n) P old cur → RunChanged a (n * t.rows) Q cur cur' → Changed t (LanesBand (l + 1) c n) P old cur'
  lanes_more l c n a P Q old cur cur' at_a within agree before wrote =
      lane_more l c n P (λ b j i. Q ((j - c) * t.rows + i)) old cur cur' agree before (band_changed l c n a Q cur cur' at_a within wrote)

  pub lanes_all : (l c n : ℕ) (P : ℕ → ℕ → ℕ → S → Type 0) (old cur : List S) → t.lanes ≤ l → Changed t (LanesBand l c n) P old cur → Changed t (InBand c n) P old cur
  lanes_all l c n P old cur end done =
      changed_as (LanesBand l c n) (InBand c n) P P old cur (λ b j i w h. (h.1, h.2)) (λ b j i w h. (omega (arith, w.lane), h.0, h.1)) (λ b j i v w h q. q) done

  -- ---- the same for one column, whose run of a lane has as many entries as the table rows

  pub column_more : (l c a : ℕ) (P : ℕ → ℕ → ℕ → S → Type 0) (Q : ℕ → S → Type 0) (old cur cur' : List S) → a ≡ start t l c → c < t.cols
      → ((i : ℕ) (v : S) → In t l c i → Q i v → P l c i v)
      → Changed t (LanesBand l c 1) P old cur → RunChanged a t.rows Q cur cur' → Changed t (LanesBand (l + 1) c 1) P old cur'
  column_more l c a P Q old cur cur' at_a within agree before wrote =
      let one : 1 * t.rows ≡ t.rows = omega arith in
      lanes_more l c 1 a P Q old cur cur' at_a (omega arith)
      (λ j i v w h k q.
      let same : j ≡ c = omega arith in
      let none : (j - c) * t.rows ≡ 0 * t.rows = ap (λ z. z * t.rows) (omega arith) in
      let row : (j - c) * t.rows + i ≡ i = omega arith in
      rw same (agree i v (record { lane = w.lane; col = within; row = w.row }) (rw row at q)))
      before (rw one wrote)

  pub column_all : (l c : ℕ) (P : ℕ → ℕ → ℕ → S → Type 0) (old cur : List S) → t.lanes ≤ l → Changed t (LanesBand l c 1) P old cur → Changed t (InColumn c) P old cur
  column_all l c P old cur end done =
      changed_as (LanesBand l c 1) (InColumn c) P P old cur (λ b j i w h. omega arith) (λ b j i w h. (omega (arith, w.lane), omega arith, omega arith)) (λ b j i v w h q. q) done

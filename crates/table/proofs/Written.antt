-- What calls after one another leave in a table. Assumes nothing.
use Rattle.std.proofs.Common.{◌≡◌, ℕ, ◌+◌, ◌*◌, ◌<◌, ◌≤◌, false, cond, eqb, List, [], ◌∷◌, length, get_or, sym, refl, ap, ◌∙◌, subst, inl, inr, arith, eq-eqb, ne_eqb}
use Rattle.std.proofs.lemmas.Bool.{cases_eq}
use Rattle.scalar.specs.Ops.{Ops}
use Rattle.shape.specs.Shapes.{whole, cell, column_of, In}
use Rattle.shape.specs.Lanes.{lane_for}
use Rattle.shape.specs.Refusals.{first_of}
use Rattle.shape.specs.Operands.{pair_tests}
use Rattle.shape.specs.declared.operand.TableShape.{TableShape}
use Rattle.shape.specs.declared.operand.Column.{Column}
use Rattle.shape.proofs.Blocks.{cells_are}
use Rattle.shape.proofs.Cells.{changed_as}
use Rattle.shape.proofs.Passes.{pair_passes, own_lane}
use Rattle.elementwise.specs.Entrywise.{Entrywise, Tablewise}
use Rattle.index.specs.Calls.{Routed}
use Rattle.index.specs.declared.route.Route.TheVariants.{Copy}
use Rattle.table.specs.Tests.{ColumnsLawful, DiagonalLawful, ResizeLawful}
use Rattle.table.specs.Calls.{ScaleAdded, ColumnsAdded}

module _ {S M : Type 0} (means : S → M) (o : Ops M) where
  -- a copy of x, and then the gain of beta·y
  pub scale_added : (x : TableShape) (xs : List S) (beta : M) (y : TableShape) (ys : List S) (t : TableShape) (old mid cur : List S)
      → Tablewise x xs t (λ p q v. v ≡ p) old mid → Tablewise y ys t (λ p q v. means v ≡ o.plus (means q) (o.times beta (means p))) mid cur → ScaleAdded means o x xs beta y ys t old cur
  scale_added x xs beta y ys t old mid cur copied gained = record {
    written = λ b j i d w h e.
        gained.written b j i d w tt e ∙ ap (λ z. o.plus (means z) (o.times beta (means (get_or ys (cell y (lane_for b y.lanes t.lanes) j i) e)))) (copied.written b j i e w tt e);
    kept = λ b j i d w n. absurd (n tt);
  }

  -- the columns of t as the lanes of a vector
  pub columns_added : (t : TableShape) (ts : List S) (v : Column) (old cur : List S) (lane : Column) (number : ℕ) → ColumnsLawful t (length ts) v (length old) → lane ≡ whole t.rows v.of.lanes
      → number ≡ first_of (pair_tests lane (length ts) v (length old)) → (number ≡ 0 → Entrywise lane ts v (λ p q w. means w ≡ o.plus (means q) (means p)) old cur) → ColumnsAdded means o t ts v old cur
  columns_added t ts v old cur lane number law is verdict accepted =
      let n = v.of.lanes in
      let size : length ts ≡ t.rows * 1 * n =
      law.source.size ∙ cells_are t ∙ ap (λ z. z * t.rows) (sym law.lanes) ∙ omega arith in
      let passes : first_of (pair_tests (whole t.rows n) (length ts) v (length old)) ≡ 0 =
      pair_passes (whole t.rows n) (length ts) v (length old)
      (record {
        fits = record { some = law.target.fits.some; few_rows = law.source.few_rows; few_cols = omega arith; few_lanes = law.target.fits.few_lanes; size = size };
        within = omega arith;
      })
      law.target law.rows refl in
      let passes' = subst (λ (c : Column). first_of (pair_tests c (length ts) v (length old)) ≡ 0) (sym is) passes in
      let done = subst (λ (c : Column). Entrywise c ts v (λ p q w. means w ≡ o.plus (means q) (means p)) old cur) is (accepted (verdict ∙ passes')) in
      changed_as v.of _ _ _ _ old cur (λ b j i w h. h) (λ b j i w h. h)
      (λ b j i w inside h made l k d below e.
      let place : cell (whole t.rows n).of (lane_for b n n) 0 i ≡ cell t l k i =
      ap (λ z. z * t.rows + i) (ap (λ z. z * 1 + 0) (own_lane b n n refl law.target.fits.some) ∙ omega arith) in
      made d ∙ ap (λ z. o.plus (means (get_or old (cell v.of b j i) d)) (means (get_or ts z d))) place)
      done

  -- the columns below m hold their entry of the diagonal, and every other cell means zero
  pub record Placed (v : Column) (vs : List S) (t : TableShape) (m : ℕ) (cur : List S) : Type 0 where
    pub diagonal : (b j i : ℕ) (d e : S) → In t b j i → j < m → i ≡ j → get_or cur (cell t b j i) d ≡ get_or vs (cell v.of b v.col i) e
    pub other : (b j i : ℕ) (d : S) → In t b j i → (j < m → i ≡ j → ⊥) → means (get_or cur (cell t b j i) d) ≡ o.zero

  module _ (v : Column) (vs : List S) (t : TableShape) where
    pub placed_more : (vl tl m : ℕ) (cur cur' : List S) → DiagonalLawful v vl t tl → Placed v vs t m cur → Routed Copy v vs (m ∷ []) (column_of t m) cur cur' → Placed v vs t (m + 1) cur'
    placed_more vl tl m cur cur' law before wrote = record {
      diagonal = λ b j i d e w h q. elim (cases_eq j m) [
        | inl here ↦
            let lane = own_lane b v.of.lanes t.lanes law.lanes law.target.some in
            let row : m ≡ i = omega arith in
            let place : cell v.of (lane_for b v.of.lanes t.lanes) v.col m ≡ cell v.of b v.col i =
            ap (λ z. cell v.of z v.col m) lane ∙ ap (λ z. cell v.of b v.col z) row in
            wrote.written b j i d w here e
            ∙ ap (λ z. cond z (get_or vs (cell v.of (lane_for b v.of.lanes t.lanes) v.col m) e) (get_or cur (cell t b m i) e)) (eq-eqb m i row)
            ∙ ap (λ z. get_or vs z e) place
        | inr there ↦ wrote.kept b j i d w there ∙ before.diagonal b j i d e w (omega arith) q
      ];
      other = λ b j i d w n. elim (cases_eq j m) [
        | inl here ↦
            let off : eqb m i ≡ false = ne_eqb m i (λ q. n (omega arith) (omega arith)) in
            let as-held : get_or cur' (cell t b j i) d ≡ get_or cur (cell t b j i) d =
            wrote.written b j i d w here d
            ∙ ap (λ z. cond z (get_or vs (cell v.of (lane_for b v.of.lanes t.lanes) v.col m) d) (get_or cur (cell t b m i) d)) off
            ∙ ap (λ z. get_or cur (cell t b z i) d) (sym here) in
            ap means as-held ∙ before.other b j i d w (λ h q. omega arith)
        | inr there ↦ ap means (wrote.kept b j i d w there) ∙ before.other b j i d w (λ h q. n (omega arith) q)
      ];
    }

  -- the columns below m that x has are copied, and those that it has not mean zero
  pub record Brought (x : TableShape) (xs : List S) (y : TableShape) (m : ℕ) (cur : List S) : Type 0 where
    pub copied : (b j i : ℕ) (d e : S) → In y b j i → j < m → j < x.cols → get_or cur (cell y b j i) d ≡ get_or xs (cell x b j i) e
    pub further : (b j i : ℕ) (d : S) → In y b j i → x.cols ≤ j → means (get_or cur (cell y b j i) d) ≡ o.zero

  module _ (x : TableShape) (xs : List S) (y : TableShape) where
    pub brought_more : (xl yl m : ℕ) (cur cur' : List S) → ResizeLawful x xl y yl → m < x.cols → Brought x xs y m cur → Entrywise (column_of x m) xs (column_of y m) (λ p q w. w ≡ p) cur cur'
        → Brought x xs y (m + 1) cur'
    brought_more xl yl m cur cur' law within before wrote = record {
      copied = λ b j i d e w h q. elim (cases_eq j m) [
        | inl here ↦
            let lane = own_lane b x.lanes y.lanes law.lanes law.target.some in
            wrote.written b j i d w here e ∙ ap (λ z. get_or xs (cell x z m i) e) lane ∙ ap (λ z. get_or xs (cell x b z i) e) (sym here)
        | inr there ↦ wrote.kept b j i d w there ∙ before.copied b j i d e w (omega arith) q
      ];
      further = λ b j i d w h. ap means (wrote.kept b j i d w (λ here. omega arith)) ∙ before.further b j i d w h;
    }

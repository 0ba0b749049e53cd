-- What the calls on columns of the table leave, where a lane reads its own. Assumes nothing.
use Rattle.std.proofs.Common.{◌≡◌, ℕ, ◌+◌, ◌-◌, ◌<◌, ltb, leb, List, map, length, get_or, take, drop, sym, refl, ap, ◌∙◌, subst, arith}
use Rattle.std.proofs.lemmas.List.{take_rest, drop-map, get_or-drop}
use Rattle.std.proofs.lemmas.Bool.{cond-false, le-ltb, lt-leb}
use Rattle.scalar.specs.Ops.{Ops}
use Rattle.scalar.specs.Sums.{at}
use Rattle.scalar.proofs.Stored.{at_is}
use Rattle.shape.specs.Shapes.{cell, In, Fits, Lawful}
use Rattle.shape.specs.Lanes.{lane_for}
use Rattle.shape.specs.declared.operand.TableShape.{TableShape}
use Rattle.shape.specs.declared.operand.Column.{Column}
use Rattle.shape.proofs.Blocks.{cell_fits}
use Rattle.product.specs.Rows.{summed}
use Rattle.product.specs.Results.{row_of, GemvCols}
use Rattle.product.proofs.RowLaws.{summed_cong}
use Rattle.differences.specs.Rows.{multiplied, updated}
use Rattle.differences.specs.MulCols.{Multiplied}
use Rattle.differences.specs.Updates.{cell_updated, Updated}
use Rattle.shape.proofs.Passes.{own_lane}
use Rattle.forward.proofs.Families.{Written, written, columns_meant}

module _ {S M : Type 0} (means : S → M) (o : Ops M) where
  -- the numbers from place n on, lent
  pub at_rest : (xs : List S) (n l : ℕ) → at means o (take (length xs - n) (drop n xs)) l ≡ at means o xs (n + l)
  at_rest xs n l =
      ap (λ (z : List S). at means o z l) (take_rest xs n) ∙ ap (λ (z : List M). get_or z l o.zero) (sym (drop-map means n xs)) ∙ get_or-drop n (map means xs) l o.zero

  pub columns_summed : (a b : M) (t : TableShape) (ts : List S) (start n : ℕ) (xs : List S) (x : ℕ → M) (y : Column) (old cur : List S)
      → Lawful y (length old) → t.lanes ≡ y.of.lanes → length cur ≡ length old → ((l : ℕ) → l < n → at means o xs l ≡ x l)
      → GemvCols means o (summed o) a t ts start n xs b y old cur
      → Written means o y (λ k i. summed o (row_of means o t ts k i) start n a b x (at means o old (cell y.of k y.col i))) old cur
  columns_summed a b t ts start n xs x y old cur ly lanes same coeffs c =
      written means o y _ (λ k i. summed o (row_of means o t ts k i) start n a b x (at means o old (cell y.of k y.col i))) old cur ly same
      (λ k i w q.
      let own = own_lane k t.lanes y.of.lanes lanes (omega (arith, w.lane)) in
      let there = cell_fits y.of (length old) k y.col i ly.fits w in
      at_is means o cur (cell y.of k y.col i) _ (omega arith)
      (λ d.
      q d
      ∙ summed_cong o (row_of means o t ts (lane_for k t.lanes y.of.lanes) i) (row_of means o t ts k i) start start n a b (λ l. at means o xs l) x _ (at means o old (cell y.of k y.col i))
      (λ l h. ap (λ z. at means o ts (cell t z (start + l) i)) own) coeffs refl))
      c

  pub columns_multiplied : (t : TableShape) (n : ℕ) (m : ℕ → ℕ → M) (old cur : List S) → Fits t (length old) → length cur ≡ length old → Multiplied means o t n m old cur
      → (b j i : ℕ) → In t b j i → at means o cur (cell t b j i) ≡ multiplied o (row_of means o t old b i) n m j
  columns_multiplied t n m old cur fits same c =
      columns_meant means o t n (λ b j i. multiplied o (row_of means o t old b i) n m j) old cur fits same
      (λ b j i from. cond-false (ltb j n) _ _ (le-ltb j n from)) c

  pub columns_updated : (t : TableShape) (k : ℕ) (d d' : Column) (ds old cur : List S) → d' ≡ d → d.of.lanes ≡ t.lanes → Fits t (length old) → length cur ≡ length old
      → Updated means o t k d' ds old cur
      → (b j i : ℕ) → In t b j i → at means o cur (cell t b j i) ≡ updated o (row_of means o t old b i) (at means o ds (cell d.of b d.col i)) k j
  columns_updated t k d d' ds old cur ed lanes fits same c b j i w =
      let own = own_lane b d.of.lanes t.lanes lanes (omega (arith, w.lane)) in
      columns_meant means o t (k + 3) (cell_updated means o t k d ds old) old cur fits same
      (λ b j i from. cond-false (leb j (k + 2)) _ _ (lt-leb j (k + 2) (omega arith)))
      (subst (λ (v : Column). Updated means o t k v ds old cur) ed c) b j i w
      ∙ ap (λ z. updated o (row_of means o t old b i) (at means o ds (cell d.of z d.col i)) k j) own

-- Where the run of a lane starts in the source and in the destination, and the places in it. Assumes nothing.
use Rattle.std.proofs.Common.{◌≡◌, ℕ, ◌+◌, ◌-◌, ◌*◌, ◌<◌, ◌≤◌, List, sym, ap, ◌∙◌, subst, arith}
use Rattle.shape.specs.Shapes.{start, cell, band_of, all_of, Fits}
use Rattle.shape.specs.Changes.{Changed, InBand}
use Rattle.shape.specs.Lanes.{lane_for}
use Rattle.shape.specs.declared.operand.TableShape.{TableShape}
use Rattle.shape.specs.declared.operand.Band.{Band}
use Rattle.shape.specs.declared.operand.Column.{Column}
use Rattle.shape.proofs.Blocks.{cell_from, lane_below}
use Rattle.shape.proofs.Cells.{changed_as}
use Rattle.elementwise.specs.Entrywise.{BandsLawful, banded, Entrywise, Tablewise}

-- what a call of `lane_for` and then one of `start` gave: the start of the source's run
module _ (x : Band) (xl : ℕ) (y : Band) (yl : ℕ) (law : BandsLawful x xl y yl) (lane read a : ℕ) (l : lane < y.of.lanes)
    (found : lane < y.of.lanes → y.of.lanes ≤ 4096 → x.of.lanes ≤ 4096 → read ≡ lane_for lane x.of.lanes y.of.lanes)
    (starts : (len : ℕ) → Fits x.of len → x.first ≤ x.of.cols → read < x.of.lanes → a ≡ start x.of read x.first) where
  read_is : read ≡ lane_for lane x.of.lanes y.of.lanes
  read_is = found l law.target.few_lanes law.source.few_lanes

  pub read_below : read < x.of.lanes
  read_below = rw read_is (lane_below lane x.of.lanes y.of.lanes law.source.some l)

  pub reads_from : a ≡ start x.of (lane_for lane x.of.lanes y.of.lanes) x.first
  reads_from = starts xl law.source (omega (arith, law.source_within)) read_below ∙ ap (λ b. start x.of b x.first) read_is

-- a lane's run is as long in the source as in the destination
pub run_size : (x : Band) (xl : ℕ) (y : Band) (yl : ℕ) → BandsLawful x xl y yl → x.count * x.of.rows ≡ y.count * y.of.rows
run_size x xl y yl law = ap (λ z. z * x.of.rows) law.count ∙ ap (λ z. y.count * z) law.rows

-- row i of the column at the distance j - c in a run that starts at column f
pub place_in : (t : TableShape) (b f c j i r a : ℕ) → a ≡ start t b f → t.rows ≡ r → a + ((j - c) * r + i) ≡ cell t b (f + (j - c)) i
place_in t b f c j i r a e rows = ap (λ z. z + ((j - c) * r + i)) e ∙ ap (λ z. start t b f + ((j - c) * z + i)) (sym rows) ∙ cell_from t b f (j - c) i

-- ---- a column and a whole table as bands

module _ {S : Type 0} (R : S → S → S → Type 0) (xs old cur : List S) where
  abbrev Zipped : Band → Band → Type 0
  Zipped x y = Changed y.of (InBand y.first y.count) (banded R x xs y old) old cur

  as_bands : (x x' y y' : Band) → x ≡ x' → y ≡ y' → Zipped x y → Zipped x' y'
  as_bands x x' y y' e f z = subst (λ (p : Band). Zipped p y') e (subst (λ (q : Band). Zipped x q) f z)

  pub zipped_columns : (x y : Column) (p q : Band) → p ≡ band_of x → q ≡ band_of y → Zipped p q → Entrywise x xs y R old cur
  zipped_columns x y p q e f z =
      changed_as y.of _ _ _ _ old cur (λ b j i w h. omega arith) (λ b j i w h. (omega arith, omega arith))
      (λ b j i v w h made d. let col : x.col + (j - y.col) ≡ x.col = omega arith in rw col at (made d)) (as_bands p (band_of x) q (band_of y) e f z)

  pub zipped_tables : (x y : TableShape) (p q : Band) → p ≡ all_of x → q ≡ all_of y → Zipped p q → Tablewise x xs y R old cur
  zipped_tables x y p q e f z =
      changed_as y _ _ _ _ old cur (λ b j i w h. tt) (λ b j i w h. (omega arith, omega (arith, w.col)))
      (λ b j i v w h made d. let col : 0 + (j - 0) ≡ j = omega arith in rw col at (made d)) (as_bands p (all_of x) q (all_of y) e f z)

-- Products of a table's columns with coefficients, lane after lane, and over exact scalars. Assumes nothing.
use Rattle.std.proofs.Common.{◌≡◌, ℕ, ◌+◌, ◌*◌, ◌<◌, ◌≤◌, List, length, take, sym, refl, ap, ◌∙◌, subst, arith}
use Rattle.scalar.specs.Ops.{Ops, Ring}
use Rattle.scalar.specs.Sums.{at}
use Rattle.scalar.proofs.Stored.{at_same}
use Rattle.shape.specs.Shapes.{start, cell, whole, Fits, Lawful}
use Rattle.shape.specs.Lanes.{lane_for}
use Rattle.shape.specs.Changes.{Changed, RunChanged, LanesBand, meant}
use Rattle.shape.specs.declared.operand.TableShape.{TableShape}
use Rattle.shape.specs.declared.operand.Column.{Column}
use Rattle.shape.specs.declared.operand.Band.{Band}
use Rattle.shape.proofs.Blocks.{band_fits, cell_fits, cell_from, lane_below}
use Rattle.shape.proofs.Cells.{changed_as, column_more}
use Rattle.shape.proofs.Broadcast.{reads_from}
use Rattle.product.specs.Rows.{summed, linear}
use Rattle.product.specs.Tests.{ProductLawful}
use Rattle.product.specs.Results.{row_of, broadcast, row_made, Applied}
use Rattle.product.proofs.Entries.{at_front}
use Rattle.product.proofs.RowLaws.{summed_cong, summed_linear}

-- the lane's runs start where the lanes that are read do
pub record Placed (t : Band) (x y : Column) (lane from with to : ℕ) : Type 0 where
  pub table : from ≡ start t.of (lane_for lane t.of.lanes y.of.lanes) t.first
  pub source : with ≡ start x.of (lane_for lane x.of.lanes y.of.lanes) x.col
  pub target : to ≡ start y.of lane y.col

pub record Inside (tl xl yl n rows from with to : ℕ) : Type 0 where
  pub table : from + n * rows ≤ tl
  pub source : with + n ≤ xl
  pub target : to + rows ≤ yl

module _ (t : Band) (tl : ℕ) (x : Column) (xl : ℕ) (y : Column) (yl : ℕ) (law : ProductLawful t tl x xl y yl) (lane from with to : ℕ) (l : lane < y.of.lanes) where
  -- after the calls of `lane_for` and `start`
  pub lane_placed : (read-t read-x : ℕ)
      → (lane < y.of.lanes → y.of.lanes ≤ 4096 → t.of.lanes ≤ 4096 → read-t ≡ lane_for lane t.of.lanes y.of.lanes)
      → ((len : ℕ) → Fits t.of len → t.first ≤ t.of.cols → read-t < t.of.lanes → from ≡ start t.of read-t t.first)
      → (lane < y.of.lanes → y.of.lanes ≤ 4096 → x.of.lanes ≤ 4096 → read-x ≡ lane_for lane x.of.lanes y.of.lanes)
      → ((len : ℕ) → Lawful x len → read-x < x.of.lanes → with ≡ start x.of read-x x.col)
      → ((len : ℕ) → Lawful y len → lane < y.of.lanes → to ≡ start y.of lane y.col)
      → Placed t x y lane from with to
  lane_placed read-t read-x found-t starts-t found-x starts-x starts-y =
      let few = law.target.fits.few_lanes in
      let is = found-t l few law.table.few_lanes in
      let below : read-t < t.of.lanes = rw is (lane_below lane t.of.lanes y.of.lanes law.table.some l) in
      record {
        table = starts-t tl law.table (omega (arith, law.within)) below ∙ ap (λ b. start t.of b t.first) is;
        source = reads_from x xl y.of.lanes lane read-x with law.source l few found-x starts-x;
        target = starts-y yl law.target l;
      }

  pub runs_inside : Placed t x y lane from with to → Inside tl xl yl t.count y.of.rows from with to
  runs_inside placed =
      let read-t = lane_below lane t.of.lanes y.of.lanes law.table.some l in
      let read-x = lane_below lane x.of.lanes y.of.lanes law.source.fits.some l in
      let table : from + t.count * t.of.rows ≤ tl = rw placed.table (band_fits t.of tl _ t.first t.count law.table read-t law.within) in
      let source : with + 1 * x.of.rows ≤ xl = rw placed.source (band_fits x.of xl _ x.col 1 law.source.fits read-x (omega (arith, law.source.within))) in
      let target : to + 1 * y.of.rows ≤ yl = rw placed.target (band_fits y.of yl lane y.col 1 law.target.fits l (omega (arith, law.target.within))) in
      record { table = rw law.rows at table; source = omega (arith, law.count); target = omega arith }

module _ {S M : Type 0} (means : S → M) (o : Ops M) (a b : M) (t : Band) (ts : List S) (x : Column) (xs : List S) (y : Column) (old : List S)
    (law : ProductLawful t (length ts) x (length xs) y (length old)) where
  abbrev row : ℕ → ℕ → ℕ → M
  row = row_made means o (summed o) a t.of ts t.first t.count (broadcast means o x xs y.of.lanes) b y old

  pub lane_more : (lane from with to : ℕ) (cur cur' : List S) → lane < y.of.lanes → length cur ≡ length old → Placed t x y lane from with to
      → Changed y.of (LanesBand lane y.col 1) (meant means row) old cur
      → RunChanged to y.of.rows
      (λ i v. means v ≡ summed o (λ l. at means o ts (from + (l * y.of.rows + i))) 0 t.count a b (λ l. at means o xs (with + l)) (at means o cur (to + i))) cur cur'
      → Changed y.of (LanesBand (lane + 1) y.col 1) (meant means row) old cur'
  lane_more lane from with to cur cur' l same placed before wrote =
      let read = lane_for lane t.of.lanes y.of.lanes in
      column_more y.of lane y.col to (meant means row) _ old cur cur' placed.target law.target.within
      (λ i v w q. q ∙ summed_cong o (λ k. at means o ts (from + (k * y.of.rows + i))) (row_of means o t.of ts read i) 0 t.first t.count a b _ _ _ _
      (λ k h.
      let first : 0 + k ≡ k = omega arith in
      ap (at means o ts)
      (ap (λ z. z + ((0 + k) * y.of.rows + i)) placed.table ∙ ap (λ z. start t.of read t.first + (z * y.of.rows + i)) first
      ∙ ap (λ z. start t.of read t.first + (k * z + i)) (sym law.rows) ∙ cell_from t.of read t.first k i))
      (λ k h. ap (λ z. at means o xs (z + k)) placed.source)
      (ap (λ z. at means o cur (z + i)) placed.target
      ∙ (let fits = cell_fits y.of (length old) lane y.col i law.target.fits w in
      at_same means o cur old (cell y.of lane y.col i) (cell y.of lane y.col i) (omega arith) fits (λ d. before.kept lane y.col i d w (λ z. omega arith)))))
      before wrote

module _ {S M : Type 0} (means : S → M) (o : Ops M) (a b : M) (t : TableShape) (ts : List S) (start n : ℕ) (y : Column) (old cur : List S) where
  abbrev row_read : ℕ → ℕ → ℕ → M
  row_read k i = row_of means o t ts (lane_for k t.lanes y.of.lanes) i

  -- for an exact scalar the call computes BLAS's definition
  pub applied_linear : (x : ℕ → ℕ → M) → Ring o → Applied means o (summed o) a t ts start n x b y old cur → Applied means o (linear o) a t ts start n x b y old cur
  applied_linear x r done = changed_as y.of _ _ _ _ old cur (λ k j i w h. h) (λ k j i w h. h) (λ k j i v w h q. q ∙ summed_linear o r (row_read k i) start n a b (x k) (at means o old (cell y.of k j i))) done

  -- coefficients in a vector of one lane are the same for every lane
  pub applied_shared : (xs : List S) (v : Column) → v ≡ whole n 1 → n ≤ length xs
      → Applied means o (summed o) a t ts start n (broadcast means o v (take n xs) y.of.lanes) b y old cur
      → Applied means o (summed o) a t ts start n (λ _ l. at means o xs l) b y old cur
  applied_shared xs v is enough done =
      changed_as y.of _ _ _ _ old cur (λ k j i w h. h) (λ k j i w h. h)
      (λ k j i z w h q. q ∙ summed_cong o (row_read k i) (row_read k i) start start n a b _ _ (at means o old (cell y.of k j i)) (at means o old (cell y.of k j i))
      (λ l m. refl) (λ l m. shared k l w.lane m) refl)
      (subst (λ (p : Column). Applied means o (summed o) a t ts start n (broadcast means o p (take n xs) y.of.lanes) b y old cur) is done)
    where
      shared : (k l : ℕ) → k < y.of.lanes → l < n → broadcast means o (whole n 1) (take n xs) y.of.lanes k l ≡ at means o xs l
      shared k l lane m =
          let first = lane_below k 1 y.of.lanes (omega arith) lane in
          let none : lane_for k 1 y.of.lanes ≡ 0 = omega arith in
          let here : (0 * 1 + 0) * n + l ≡ l = omega arith in
          ap (λ z. at means o (take n xs) ((z * 1 + 0) * n + l)) none ∙ ap (at means o (take n xs)) here
          ∙ at_front means o n l xs enough m

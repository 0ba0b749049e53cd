-- Rank-one updates, column after column and lane after lane. Assumes nothing.
use Rattle.std.proofs.Common.{◌≡◌, ℕ, ◌+◌, ◌-◌, ◌*◌, ◌<◌, ◌≤◌, List, length, get_or, take, sym, refl, ap, ◌∙◌, subst, ap₂, inl, inr, add-mul, arith}
use borrow.Rule.Slice.PartMut.{put_mid}
use Rattle.std.proofs.lemmas.List.{length-take-le}
use Rattle.std.proofs.lemmas.Bool.{cases_lt}
use Rattle.scalar.specs.Ops.{Ops}
use Rattle.scalar.specs.Sums.{at}
use Rattle.scalar.proofs.Stored.{at_read, at_same, at_part}
use Rattle.shape.specs.Shapes.{start, cell}
use Rattle.shape.specs.Lanes.{lane_for}
use Rattle.shape.specs.Changes.{Changed, RunChanged, LanesBand, meant}
use Rattle.shape.specs.declared.operand.TableShape.{TableShape}
use Rattle.shape.specs.declared.operand.Column.{Column}
use Rattle.shape.proofs.Blocks.{block_fits, block_lane, band_fits, cell_fits, cell_from, lane_below}
use Rattle.shape.proofs.Cells.{changed_as, lanes_more}
use Rattle.shape.proofs.Parts.{Filled, length_part, part_changed}
use Rattle.product.specs.Tests.{RangeLawful}
use Rattle.product.specs.Results.{in_block, row_of, broadcast, cell_gained, GerCols}
use Rattle.product.proofs.Entries.{part, at_front}
use Rattle.product.proofs.RowLaws.{spread_in}

-- a run written after the entries below its start
pub filled_run : {S : Type 0} (P Q : ℕ → S → Type 0) (old cur cur' : List S) (a r : ℕ) → ((i : ℕ) (v : S) → i < r → Q i v → P (a + i) v)
    → Filled P old cur a → RunChanged a r Q cur cur' → Filled P old cur' (a + r)
filled_run P Q old cur cur' a r agree inv wrote = record {
  done = λ k d h. elim (cases_lt k a) [
    | inl before ↦ rw (wrote.kept k d (inl before)) (inv.done k d before)
    | inr from ↦
        let here : a + (k - a) ≡ k = omega arith in
        let p = agree (k - a) _ (omega arith) (wrote.written (k - a) d (omega arith)) in
        rw here at p
  ];
  rest = λ k d h. wrote.kept k d (inr h) ∙ inv.rest k d (omega arith);
}

module _ {S M : Type 0} (means : S → M) (o : Ops M) (a : M) (xs ps old : List S) where
  -- what row i of column l becomes
  abbrev pub gained : ℕ → ℕ → M
  gained l i = o.plus (at means o old (l * length ps + i)) (o.times (o.times a (at means o xs l)) (at means o ps i))

  -- one more column gains
  pub gained_more : (cur cur' : List S) (l : ℕ) (x c : S) → length old ≡ length xs * length ps → length cur ≡ length old → l < length xs
      → x ≡ get_or xs l x → means c ≡ o.times a (means x)
      → Filled (in_block means (length ps) gained) old cur (l * length ps)
      → RunChanged (l * length ps) (length ps) (λ i v. means v ≡ o.plus (at means o cur (l * length ps + i)) (o.times (means c) (at means o ps i))) cur cur'
      → Filled (in_block means (length ps) gained) old cur' ((l + 1) * length ps)
  gained_more cur cur' l x c size same below read product inv wrote =
      let factor : means c ≡ o.times a (at means o xs l) = product ∙ ap (o.times a) (sym (at_read means o xs l x below read)) in
      let next : l * length ps + length ps ≡ (l + 1) * length ps = sym (add-mul l 1 (length ps) ∙ omega arith) in
      let f = block_fits l (length xs) (length ps) below in
      rw (sym next)
      (filled_run _ _ old cur cur' (l * length ps) (length ps)
      (λ i v h q m k b e.
      let s = block_lane l i m k (length ps) h b e in
      let kept = at_same means o cur old (l * length ps + i) (m * length ps + k) (omega arith) (omega arith) (λ d. inv.rest (l * length ps + i) d (omega arith) ∙ ap (λ z. get_or old z d) e) in
      q ∙ ap₂ o.plus kept (ap₂ o.times (factor ∙ ap (λ z. o.times a (at means o xs z)) s.0) (ap (at means o ps) s.1)))
      inv wrote)

module _ {S M : Type 0} (means : S → M) (o : Ops M) (a : M) (xs ps ys : List S) (from rows to : ℕ) (source : from + rows ≤ length ps) (target : to + length xs * rows ≤ length ys) where
  -- a gain in parts, and the gain in the memories that lent them
  abbrev part_gain : ℕ → S → Type 0
  part_gain = in_block means (length (part from rows ps)) (gained means o a xs (part from rows ps) (part to (length xs * rows) ys))

  abbrev whole_gain : ℕ → S → Type 0
  whole_gain = in_block means rows (λ l i. o.plus (at means o ys (to + (l * rows + i))) (o.times (o.times a (at means o xs l)) (at means o ps (from + i))))

  same_gain : (k : ℕ) (v : S) → k < length xs * rows → part_gain k v → whole_gain k v
  same_gain k v h q l i b e =
      let long : length (part from rows ps) ≡ rows = length_part ps from rows source in
      let all = part to (length xs * rows) ys in
      q l i (omega arith) (e ∙ ap (λ r. l * r + i) (sym long))
      ∙ ap₂ o.plus (ap (λ r. at means o all (l * r + i)) long ∙ at_part means o to (length xs * rows) (l * rows + i) ys target (omega arith))
      (ap (o.times (o.times a (at means o xs l))) (at_part means o from rows i ps source b))

  pub part_gained : (cur : List S) → length cur ≡ length (part to (length xs * rows) ys) → ((k : ℕ) (d : S) → k < length (part to (length xs * rows) ys) → part_gain k (get_or cur k d))
      → RunChanged to (length xs * rows) whole_gain ys (put_mid to ((to + length xs * rows) - to) ys cur)
  part_gained cur same run =
      let long = length_part ys to (length xs * rows) target in
      part_changed to (length xs * rows) whole_gain ys cur target (same ∙ long) (λ k d h. same_gain k (get_or cur k d) h (run k d (omega arith)))

-- ---- the lanes: the run of p that a lane reads starts at `from`, its columns at `to`

pub record Inside (pl tl n rows from to : ℕ) : Type 0 where
  pub source : from + rows ≤ pl
  pub target : to + n * rows ≤ tl

pub runs_inside : (t : TableShape) (tl first n : ℕ) (p : Column) (pl lane from to : ℕ) → RangeLawful t tl first n n p pl → lane < t.lanes
    → from ≡ start p.of (lane_for lane p.of.lanes t.lanes) p.col → to ≡ start t lane first → Inside pl tl n t.rows from to
runs_inside t tl first n p pl lane from to law l is-from is-to =
    let read = lane_below lane p.of.lanes t.lanes law.column.fits.some l in
    let source : from + 1 * p.of.rows ≤ pl = rw is-from (band_fits p.of pl _ p.col 1 law.column.fits read (omega (arith, law.column.within))) in
    record { source = omega (arith, law.rows); target = rw is-to (band_fits t tl lane first n law.table l law.within) }

module _ {S M : Type 0} (means : S → M) (o : Ops M) (a : M) (xs : List S) (p : Column) (ps : List S) (t : TableShape) (first : ℕ) (old : List S)
    (law : RangeLawful t (length old) first (length xs) (length xs) p (length ps)) where
  abbrev new : ℕ → ℕ → ℕ → M
  new = cell_gained means o a xs p ps t first (length xs) old

  pub spread_more : (lane from to : ℕ) (cur cur' : List S) → lane < t.lanes → length cur ≡ length old
      → from ≡ start p.of (lane_for lane p.of.lanes t.lanes) p.col → to ≡ start t lane first
      → Changed t (LanesBand lane first (length xs)) (meant means new) old cur
      → RunChanged to (length xs * t.rows)
      (in_block means t.rows (λ l i. o.plus (at means o cur (to + (l * t.rows + i))) (o.times (o.times a (at means o xs l)) (at means o ps (from + i))))) cur cur'
      → Changed t (LanesBand (lane + 1) first (length xs)) (meant means new) old cur'
  spread_more lane from to cur cur' l same is-from is-to before wrote =
      lanes_more t lane first (length xs) to (meant means new) _ old cur cur' is-to law.within
      (λ j i v w h k q.
      let col : first + (j - first) ≡ j = omega arith in
      let place : to + ((j - first) * t.rows + i) ≡ cell t lane j i =
      ap (λ z. z + ((j - first) * t.rows + i)) is-to ∙ cell_from t lane first (j - first) i ∙ ap (λ z. cell t lane z i) col in
      let fits = cell_fits t (length old) lane j i law.table w in
      let kept = at_same means o cur old (cell t lane j i) (cell t lane j i) (omega arith) fits (λ d. before.kept lane j i d w (λ z. omega arith)) in
      q (j - first) i w.row refl
      ∙ ap₂ o.plus (ap (at means o cur) place ∙ kept) (ap (λ z. o.times (o.times a (at means o xs (j - first))) (at means o ps (z + i))) is-from)
      ∙ sym (spread_in o (row_of means o t old lane i) first (length xs) a (λ l. at means o xs l) (broadcast means o p ps t.lanes lane i) j h k))
      before wrote

-- coefficients past the n that are needed are not read
pub gained_front : {S M : Type 0} (means : S → M) (o : Ops M) (a : M) (xs : List S) (p : Column) (ps : List S) (t : TableShape) (first n : ℕ) (old cur : List S) → n ≤ length xs
    → GerCols means o a (take n xs) p ps t first (length (take n xs)) old cur → GerCols means o a xs p ps t first n old cur
gained_front means o a xs p ps t first n old cur enough done =
    changed_as t _ _ _ _ old cur (λ b j i w h. h) (λ b j i w h. h)
    (λ b j i v w h q.
    let below : j - first < n = omega arith in
    let e = row_of means o t old b i in
    let z = broadcast means o p ps t.lanes b i in
    q ∙ spread_in o e first n a (λ l. at means o (take n xs) l) z j h.0 h.1
    ∙ ap (λ x. o.plus (e j) (o.times (o.times a x) z)) (at_front means o n (j - first) xs enough below)
    ∙ sym (spread_in o e first n a (λ l. at means o xs l) z j h.0 h.1))
    (subst (λ (k : ℕ). GerCols means o a (take n xs) p ps t first k old cur) (length-take-le n xs enough) done)

-- Sums over the columns of a run: the later ones after one another, after the first, and in parts of memories. Assumes nothing.
use Rattle.std.proofs.Common.{◌≡◌, ℕ, suc, ◌+◌, ◌-◌, ◌*◌, ◌<◌, ◌≤◌, List, ◌∷◌, length, get_or, take, drop, sym, ap, ◌∙◌, ap₂, arith}
use lib.Arith.{digits_lt}
use borrow.Rule.Slice.PartMut.{put_mid}
use Rattle.scalar.specs.Ops.{Ops}
use Rattle.scalar.specs.Sums.{at, sum_from}
use Rattle.scalar.proofs.Stored.{at_read, at_is, at_part}
use Rattle.scalar.proofs.SumLaws.{sum_same}
use Rattle.shape.specs.Changes.{RunChanged}
use Rattle.shape.proofs.Parts.{length_part, part_changed}
use Rattle.shape.proofs.Blocks.{block_fits}
use Rattle.vector.specs.Rows.{blend}
use Rattle.product.specs.Rows.{summed}
use Rattle.product.specs.Results.{Run, run_row}
use Rattle.product.proofs.Entries.{part, at_front, at_after}
use Rattle.product.proofs.RowLaws.{summed_cong}

module _ {S M : Type 0} (means : S → M) (o : Ops M) (a : M) where
  -- the term of column l, in row i of columns of r rows
  abbrev pub term : List S → List S → ℕ → ℕ → ℕ → M
  term ds xs r i l = o.times (o.times a (run_row means o ds r i l)) (at means o xs l)

  -- one more column is added
  pub added_more : (ds xs ys cur cur' : List S) (l : ℕ) (x : S) → length cur ≡ length ys → length cur' ≡ length cur → l < length xs → x ≡ get_or xs l x
      → Run means (λ i. sum_from o (at means o ys i) (term ds xs (length ys) i) l) cur
      → Run means (λ i. o.plus (at means o cur i) (o.times (o.times a (at means o ds (l * length cur + i))) (means x))) cur'
      → Run means (λ i. sum_from o (at means o ys i) (term ds xs (length ys) i) (l + 1)) cur'
  added_more ds xs ys cur cur' l x same same' below read so_far wrote i d h =
      let next : suc l ≡ l + 1 = omega arith in
      wrote i d h
      ∙ ap₂ o.plus (at_is means o cur i _ (omega arith) (λ e. so_far i e (omega arith)))
      (ap₂ (λ r z. o.times (o.times a (run_row means o ds r i l)) z) same (sym (at_read means o xs l x below read)))
      ∙ ap (sum_from o (at means o ys i) (term ds xs (length ys) i)) next

  -- the later columns onto the first
  pub columns_summed : (b : M) (ds later ys mid cur : List S) (x : S) → length mid ≡ length ys → length cur ≡ length mid → suc (length later) * length ys ≤ length ds
      → Run means (λ i. blend o (o.times a (at means o (take (length ys) ds) i)) (means x) b (at means o ys i)) mid
      → Run means (λ i. sum_from o (at means o mid i) (term (drop (length ys) ds) later (length mid) i) (length later)) cur
      → Run means (λ i. summed o (run_row means o ds (length ys) i) 0 (suc (length later)) a b (λ l. at means o (x ∷ later) l) (at means o ys i)) cur
  columns_summed b ds later ys mid cur x same same' room first rest i d h =
      let r = length ys in
      let fits : r ≤ length ds = omega (arith, block_fits 0 (suc (length later)) r (omega arith)) in
      let zeroth : i ≡ 0 * r + i = omega arith in
      let below : i < r = omega arith in
      rest i d h
      ∙ ap (λ z. sum_from o z (term (drop r ds) later (length mid) i) (length later))
      (at_is means o mid i _ (omega arith) (λ e. first i e (omega arith))
      ∙ ap (λ z. blend o (o.times a z) (means x) b (at means o ys i)) (at_front means o r i ds fits below ∙ ap (at means o ds) zeroth))
      ∙ sum_same o _ _ _ (length later)
      (λ l k.
      let f = block_fits (suc l) (suc (length later)) r (omega arith) in
      let next : r + (l * r + i) ≡ (0 + suc l) * r + i = omega arith in
      ap (λ n. o.times (o.times a (run_row means o (drop r ds) n i l)) (at means o later l)) same
      ∙ ap (λ z. o.times (o.times a z) (at means o later l)) (at_after means o r (l * r + i) ds (omega arith) ∙ ap (at means o ds) next))

module _ {S M : Type 0} (means : S → M) (o : Ops M) (a b : M) (ds xs ys : List S) (from with to n rows : ℕ)
    (table : from + n * rows ≤ length ds) (source : with + n ≤ length xs) (target : to + rows ≤ length ys) where
  -- a sum over parts, and the sum over the memories that lent them
  abbrev part_sum : ℕ → M
  part_sum i = summed o (run_row means o (part from (n * rows) ds) (length (part to rows ys)) i) 0 (length (part with n xs)) a b (λ l. at means o (part with n xs) l) (at means o (part to rows ys) i)

  abbrev whole_sum : ℕ → M
  whole_sum i = summed o (λ l. at means o ds (from + (l * rows + i))) 0 n a b (λ l. at means o xs (with + l)) (at means o ys (to + i))

  same_sum : (i : ℕ) → i < rows → part_sum i ≡ whole_sum i
  same_sum i below =
      let old = at means o (part to rows ys) i in
      ap₂ (λ r k. summed o (run_row means o (part from (n * rows) ds) r i) 0 k a b (λ l. at means o (part with n xs) l) old) (length_part ys to rows target) (length_part xs with n source)
      ∙ summed_cong o (run_row means o (part from (n * rows) ds) rows i) (λ l. at means o ds (from + (l * rows + i))) 0 0 n a b (λ l. at means o (part with n xs) l) (λ l. at means o xs (with + l)) old (at means o ys (to + i))
      (λ l h. let k : 0 + l < n = omega arith in at_part means o from (n * rows) ((0 + l) * rows + i) ds table (digits_lt k below))
      (λ l h. at_part means o with n l xs source h)
      (at_part means o to rows i ys target below)

  pub part_summed : (cur : List S) → length cur ≡ length (part to rows ys) → Run means part_sum cur → RunChanged to rows (λ i v. means v ≡ whole_sum i) ys (put_mid to ((to + rows) - to) ys cur)
  part_summed cur same run =
      let long : length cur ≡ rows = same ∙ length_part ys to rows target in
      part_changed to rows _ ys cur target long (λ i d h. run i d (omega arith) ∙ same_sum i h)

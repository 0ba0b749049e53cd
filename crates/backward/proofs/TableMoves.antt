-- What the calls on several columns of a table leave in each lane, by meanings. Assumes nothing.
use Rattle.std.proofs.Common.{◌≡◌, ℕ, ◌+◌, ◌-◌, ◌<◌, ◌≤◌, cond, ◌&&◌, ltb, leb, List, length, take, drop, sym, refl, ap, ◌∙◌, subst, inl, inr, arith}
use Rattle.std.proofs.lemmas.Bool.{cases_lt, le-ltb, lt-leb, and_left, and_right, cond-false}
use Rattle.std.proofs.lemmas.List.{take_rest, length-drop}
use Rattle.scalar.specs.Ops.{Ops}
use Rattle.scalar.specs.Sums.{at}
use Rattle.shape.specs.Shapes.{cell, In, Fits, Lawful}
use Rattle.shape.specs.Refusals.{first_of}
use Rattle.shape.specs.Changes.{Changed, meant, InColumn, InBand}
use Rattle.shape.specs.declared.operand.Column.{Column}
use Rattle.shape.specs.declared.operand.TableShape.{TableShape}
use Rattle.product.specs.Rows.{spread}
use Rattle.product.specs.Results.{row_of, broadcast, GerCols, cell_gained}
use Rattle.product.specs.Tests.{ger_cols_tests}
use Rattle.differences.specs.Rows.{multiplied, transposed}
use Rattle.differences.specs.Transposes.{transpose_tests, Transposed, cell_totalled}
use Rattle.steps.specs.Actions.{total}
use Rattle.state.specs.Memory.{vector_of}
use Rattle.product.proofs.Entries.{cell_kept}
use Rattle.shape.proofs.Passes.{own_lane}
use Rattle.state.proofs.Lanes.{cell_written}
use Rattle.forward.proofs.Columns.{at_rest, columns_multiplied}
use Rattle.backward.proofs.Accepts.{ger_accepted, transpose_accepted}
use Rattle.backward.proofs.Moves.{rows}

module _ {S M : Type 0} (means : S → M) (o : Ops M) (t : TableShape) (old cur : List S) (fits : Fits t (length old)) (same : length cur ≡ length old) where
  -- a band became new, where new of the columns outside it is what they held
  banded : (c n : ℕ) (new : ℕ → ℕ → ℕ → M) → ((b j i : ℕ) → (InBand c n b j i → ⊥) → new b j i ≡ row_of means o t old b i j) → Changed t (InBand c n) (meant means new) old cur
      → (b j i : ℕ) → In t b j i → at means o cur (cell t b j i) ≡ new b j i
  banded c n new else done b j i w = elim (cases_lt j c) [
    | inl before ↦ outside (λ h. omega arith)
    | inr from ↦ elim (cases_lt j (c + n)) [
      | inl inside ↦ cell_written means o t old cur fits same (InBand c n) new b j i done w (from, inside)
      | inr after ↦ outside (λ h. omega arith)
    ]
  ]
    where
      outside : (InBand c n b j i → ⊥) → at means o cur (cell t b j i) ≡ new b j i
      outside out = cell_kept means o t (InBand c n) (meant means new) old cur fits same done b j i w out ∙ sym (else b j i out)

  spread_else : (e : ℕ → M) (start n : ℕ) (a : M) (x : ℕ → M) (p : M) (b j i : ℕ) → (InBand start n b j i → ⊥) → spread o e start n a x p j ≡ e j
  spread_else e start n a x p b j i out = cond-false (leb start j && ltb j (start + n)) _ _ (elim (cases_lt j start) [
    | inl before ↦ and_left (leb start j) _ (lt-leb start j before)
    | inr from ↦ elim (cases_lt j (start + n)) [
      | inl inside ↦ absurd (out (from, inside))
      | inr after ↦ and_right _ (ltb j (start + n)) (le-ltb j (start + n) after)
    ]
  ])

  -- a range of columns gains (a·x)·p, after a call that is not refused
  pub spread_lane : (v : Column) (ps numbers : List S) (number start end : ℕ) (a : M) → v ≡ vector_of t → Lawful (vector_of t) (length ps)
      → end ≤ t.cols → start ≤ end → end - start ≤ 8 → length numbers ≡ 2 + (end - start)
      → number ≡ first_of (ger_cols_tests t (length old) start end (length (take (length numbers - 2) (drop 2 numbers))) v (length ps))
      → (number ≡ 0 → GerCols means o a (take (length numbers - 2) (drop 2 numbers)) v ps t start (end - start) old cur)
      → (b j i : ℕ) → In t b j i
      → at means o cur (cell t b j i) ≡ spread o (row_of means o t old b i) start (end - start) a (λ l. at means o numbers (2 + l)) (rows means o (vector_of t) ps b i) j
  spread_lane v ps numbers number start end a is law within ordered few enough verdict accepted b j i w =
      let V = vector_of t in
      let n = end - start in
      let xs = take (length numbers - 2) (drop 2 numbers) in
      let count : length xs ≡ length numbers - 2 = ap length (take_rest numbers 2) ∙ length-drop 2 numbers in
      let passes = ger_accepted t (length old) start end (length xs) V (length ps) fits law within ordered few (omega arith) refl refl in
      let called = subst (λ (z : Column). number ≡ first_of (ger_cols_tests t (length old) start end (length xs) z (length ps))) is verdict in
      let done = subst (λ (z : Column). GerCols means o a xs z ps t start n old cur) is (accepted (called ∙ passes)) in
      let e = row_of means o t old b i in
      let p = rows means o V ps b i in
      let test = leb start j && ltb j (start + n) in
      let own : broadcast means o V ps t.lanes b i ≡ p = ap (λ z. at means o ps (cell V.of z 0 i)) (own_lane b t.lanes t.lanes refl (omega (arith, w.lane))) in
      banded start n (cell_gained means o a xs V ps t start n old) (λ b j i out. spread_else (row_of means o t old b i) start n a (λ l. at means o xs l) (broadcast means o V ps t.lanes b i) b j i out) done b j i w
      ∙ ap (λ z. spread o e start n a (λ l. at means o xs l) z j) own
      ∙ ap (λ z. cond test (o.plus (e j) (o.times (o.times a z) p)) (e j)) (at_rest means o numbers 2 (j - start))

  -- the update's transpose, and the sum of its columns in the vector d, after a call that is not refused
  pub record Summed (k : ℕ) (ds' : List S) : Type 0 where
    pub columns : (b j i : ℕ) → In t b j i → at means o cur (cell t b j i) ≡ multiplied o (row_of means o t old b i) (k + 3) (transposed o k) j
    pub sums : (b i : ℕ) → b < t.lanes → i < t.rows → rows means o (vector_of t) ds' b i ≡ total o (row_of means o t old b i) (k + 3)

  pub transposed_lane : (v : Column) (ds ds' : List S) (number k work : ℕ) → v ≡ vector_of t → Lawful (vector_of t) (length ds) → length ds' ≡ length ds
      → k + 2 < t.cols → k ≤ 5 → 8 ≤ work
      → number ≡ first_of (transpose_tests t (length old) k v (length ds) work) → (number ≡ 0 → Transposed means o t k v old cur ds ds') → Summed k ds'
  transposed_lane v ds ds' number k work is law kept within few room verdict accepted =
      let V = vector_of t in
      let passes = transpose_accepted t (length old) k V (length ds) work fits law within few room refl refl in
      let called = subst (λ (z : Column). number ≡ first_of (transpose_tests t (length old) k z (length ds) work)) is verdict in
      let done = subst (λ (z : Column). Transposed means o t k z old cur ds ds') is (accepted (called ∙ passes)) in
      record {
        columns = columns_multiplied means o t (k + 3) (transposed o k) old cur fits same done.columns;
        sums = λ b i l h.
            cell_written means o V.of ds ds' law.fits kept (InColumn 0) (cell_totalled means o t old (k + 3) V) b 0 i done.sum_in_d (record { lane = l; col = omega arith; row = h }) refl
            ∙ ap (λ z. total o (row_of means o t old z i) (k + 3)) (own_lane b t.lanes t.lanes refl (omega arith));
      }

-- Runs that follow one another are one run. Assumes nothing.
use Rattle.std.proofs.Common.{◌≡◌, ℕ, ◌+◌, ◌-◌, ◌*◌, ◌<◌, ◌≤◌, ◌⊎◌, true, List, ◌==◌, get_or, sym, ap, ◌∙◌, inl, inr, mul_assoc, mul_comm, arith}
use Rattle.std.proofs.lemmas.Bool.{or_cases, eqb-true}
use lib.Arith.{digits_lt}
use Rattle.shape.specs.Shapes.{start, cell, In, Fits}
use Rattle.shape.specs.Lanes.{lane_for}
use Rattle.shape.specs.Changes.{Changed, RunChanged, InBand}
use Rattle.shape.specs.declared.operand.Band.{Band}
use Rattle.shape.proofs.Blocks.{band_apart, band_fits, cell_from}
use Rattle.shape.proofs.Passes.{own_lane}
use Rattle.elementwise.specs.Entrywise.{BandsLawful, banded, joined}

-- the place of (lane b, column j, row i) among the entries of all runs
abbrev pub entry : Band → ℕ → ℕ → ℕ → ℕ
entry y b j i = (b * y.count + (j - y.first)) * y.of.rows + i

abbrev pub entries : Band → ℕ
entries y = y.count * y.of.rows * y.of.lanes

module _ (y : Band) (within : y.first + y.count ≤ y.of.cols) (one_run : joined y ≡ true) where
  one_or_all : (y.of.lanes ≡ 1) ⊎ (y.count ≡ y.of.cols)
  one_or_all = elim (or_cases (y.of.lanes == 1) (y.count == y.of.cols) one_run) [ inl one ↦ inl (eqb-true y.of.lanes 1 one) | inr all ↦ inr (eqb-true y.count y.of.cols all) ]

  pub entry_cell : (b j i : ℕ) → b < y.of.lanes → y.first ≤ j → start y.of 0 y.first + entry y b j i ≡ cell y.of b j i
  entry_cell b j i l from =
      let same : y.first + (j - y.first) ≡ j = omega arith in
      elim one_or_all [
        | inl one ↦
            let none : b ≡ 0 = omega arith in
            let at : b * y.count + (j - y.first) ≡ j - y.first = ap (λ z. z * y.count + (j - y.first)) none ∙ (omega arith) in
            ap (λ z. start y.of 0 y.first + (z * y.of.rows + i)) at ∙ cell_from y.of 0 y.first (j - y.first) i ∙ ap (λ z. cell y.of 0 z i) same ∙ ap (λ z. cell y.of z j i) (sym none)
        | inr all ↦
            let none : y.first ≡ 0 = omega arith in
            let at : b * y.count + (j - y.first) ≡ b * y.of.cols + j = ap (λ z. b * z + (j - y.first)) all ∙ (omega arith) in
            let first : start y.of 0 y.first ≡ 0 = ap (λ z. start y.of 0 z) none ∙ (omega arith) in
            ap (λ z. z + entry y b j i) first ∙ (omega arith) ∙ ap (λ z. z * y.of.rows + i) at
      ]

  pub entry_below : (b j i : ℕ) → In y.of b j i → y.first ≤ j → j < y.first + y.count → entry y b j i < entries y
  entry_below b j i w from inside =
      let lane : b * y.count + (j - y.first) < y.of.lanes * y.count = digits_lt w.lane (omega arith) in
      let low : entry y b j i < y.of.lanes * y.count * y.of.rows = digits_lt lane w.row in
      let turn : y.of.lanes * y.count * y.of.rows ≡ entries y = mul_assoc y.of.lanes y.count y.of.rows ∙ mul_comm y.of.lanes (y.count * y.of.rows) in
      omega arith

  pub entries_fit : (len : ℕ) → Fits y.of len → start y.of 0 y.first + entries y ≤ len
  entries_fit len fits = elim one_or_all [
    | inl one ↦
        let f = band_fits y.of len 0 y.first y.count fits fits.some within in
        let e : entries y ≡ y.count * y.of.rows = ap (λ z. y.count * y.of.rows * z) one ∙ (omega arith) in
        omega arith
    | inr all ↦
        let none : y.first ≡ 0 = omega arith in
        let first : start y.of 0 y.first ≡ 0 = ap (λ z. start y.of 0 z) none ∙ (omega arith) in
        let e : entries y ≡ y.of.rows * y.of.cols * y.of.lanes = ap (λ z. z * y.of.rows * y.of.lanes) all ∙ ap (λ z. z * y.of.lanes) (mul_comm y.of.cols y.of.rows) in
        omega (arith, fits.size)
  ]

  pub entry_apart : (b j i : ℕ) → In y.of b j i → (InBand y.first y.count b j i → ⊥) → (cell y.of b j i < start y.of 0 y.first) ⊎ (start y.of 0 y.first + entries y ≤ cell y.of b j i)
  entry_apart b j i w n = elim one_or_all [
    | inl one ↦
        let e : entries y ≡ y.count * y.of.rows = ap (λ z. y.count * y.of.rows * z) one ∙ (omega arith) in
        rw e (band_apart y.of 0 y.first y.count b j i within w.col w.row (λ h. n (h.1, h.2)))
    | inr all ↦ absurd (n (omega arith, omega (arith, w.col)))
  ]

-- what a run over all entries leaves
pub joined_changed : {S : Type 0} (R : S → S → S → Type 0) (x y : Band) (xl yl a to : ℕ) (xs old cur : List S) → BandsLawful x xl y yl → x.of.lanes ≡ y.of.lanes → joined x ≡ true → joined y ≡ true
    → a ≡ start x.of 0 x.first → to ≡ start y.of 0 y.first
    → RunChanged to (entries y) (λ p v. (d : S) → R (get_or xs (a + p) d) (get_or old (to + p) d) v) old cur
    → Changed y.of (InBand y.first y.count) (banded R x xs y old) old cur
joined_changed R x y xl yl a to xs old cur law lanes jx jy from at_to run = record {
  written = λ b j i d w h e.
      let p = entry y b j i in
      let target : to + p ≡ cell y.of b j i = ap (λ z. z + p) at_to ∙ entry_cell y law.target_within jy b j i w.lane h.0 in
      let own : lane_for b x.of.lanes y.of.lanes ≡ b = own_lane b x.of.lanes y.of.lanes lanes law.target.some in
      let back : x.first + (j - y.first) - x.first ≡ j - y.first = omega arith in
      let there : p ≡ entry x b (x.first + (j - y.first)) i =
      ap (λ z. (b * z + (j - y.first)) * y.of.rows + i) (sym law.count) ∙ ap (λ z. (b * x.count + z) * y.of.rows + i) (sym back) ∙ ap (λ z. (b * x.count + (x.first + (j - y.first) - x.first)) * z + i) (sym law.rows) in
      let source : a + p ≡ cell x.of (lane_for b x.of.lanes y.of.lanes) (x.first + (j - y.first)) i =
      ap (λ z. z + p) from ∙ ap (λ z. start x.of 0 x.first + z) there ∙ entry_cell x law.source_within jx b (x.first + (j - y.first)) i (omega (arith, w.lane)) (omega arith)
      ∙ ap (λ z. cell x.of z (x.first + (j - y.first)) i) (sym own) in
      let made = run.written p d (entry_below y law.target_within jy b j i w h.0 h.1) e in
      rw source at (rw target at made);
  kept = λ b j i d w n. run.kept (cell y.of b j i) d (rw at_to (entry_apart y law.target_within jy b j i w n));
}

-- A lane whose columns from m up to n are accumulated: what its columns mean. Assumes nothing.
use Rattle.std.proofs.Common.{◌≡◌, ℕ, ◌+◌, ◌-◌, ◌<◌, ◌≤◌, List, length, sym, refl, ap, ◌∙◌, inl, inr, arith}
use Rattle.std.proofs.lemmas.Bool.{cases_lt}
use Rattle.scalar.specs.Ops.{Ops}
use Rattle.scalar.specs.Sums.{at}
use Rattle.scalar.proofs.Stored.{at_is}
use Rattle.shape.specs.Shapes.{cell, In, Fits}
use Rattle.shape.specs.Changes.{LaneBand}
use Rattle.shape.specs.declared.operand.TableShape.{TableShape}
use Rattle.shape.proofs.Blocks.{cell_fits}
use Rattle.product.specs.Results.{row_of}
use Rattle.differences.specs.Updates.{accumulated, cell_accumulated, Accumulated}
use Rattle.product.proofs.Entries.{cell_kept}
use Rattle.differences.proofs.RowLaws.{accumulated_step}

module _ {S M : Type 0} (means : S → M) (o : Ops M) (t : TableShape) (lane n m : ℕ) (old cur : List S) (fits : Fits t (length old)) (len : length cur ≡ length old) (run : Accumulated means o t lane n m old cur) where
  -- column m, also where it is n itself
  first_means : (i : ℕ) → In t lane m i → m ≤ n → at means o cur (cell t lane m i) ≡ cell_accumulated means o t n old lane m i
  first_means i w h = elim (cases_lt m n) [
    | inl less ↦
        let f = cell_fits t (length old) lane m i fits w in
        at_is means o cur (cell t lane m i) _ (omega arith) (λ d. run.written lane m i d w (refl, omega arith, omega arith))
    | inr all ↦
        let last : m ≡ n = omega arith in
        let none : n - m ≡ 0 = omega arith in
        cell_kept means o t (LaneBand lane m (n - m)) _ old cur fits len run lane m i w (λ x. omega arith)
        ∙ ap (row_of means o t old lane i) last ∙ ap (accumulated o (row_of means o t old lane i) n) (sym none)
  ]

  -- the column before, when it gains column m
  pub gained_means : (j i : ℕ) → m ≡ j + 1 → m ≤ n → In t lane j i → m < t.cols
      → o.plus (at means o cur (cell t lane j i)) (at means o cur (cell t lane m i)) ≡ cell_accumulated means o t n old lane j i
  gained_means j i next h w col =
      let own = cell_kept means o t (LaneBand lane m (n - m)) _ old cur fits len run lane j i w (λ x. omega arith) in
      let right = first_means i (record { lane = w.lane; col = col; row = w.row }) h in
      let step = accumulated_step o (row_of means o t old lane i) n j (omega arith) in
      let same : cell_accumulated means o t n old lane m i ≡ cell_accumulated means o t n old lane (j + 1) i = ap (λ z. cell_accumulated means o t n old lane z i) next in
      cc

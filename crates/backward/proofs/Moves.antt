-- What a call on a column leaves in each lane on the way back, by meanings, where all operands have the same lanes. Assumes nothing.
use Rattle.std.proofs.Common.{◌≡◌, ℕ, List, length, ap, ◌∙◌}
use Rattle.scalar.specs.Ops.{Ops}
use Rattle.scalar.specs.Sums.{at}
use Rattle.shape.specs.Shapes.{cell, Lawful}
use Rattle.shape.specs.Refusals.{first_of}
use Rattle.shape.specs.Operands.{column_tests, pair_tests}
use Rattle.shape.specs.declared.operand.Column.{Column}
use Rattle.elementwise.specs.Entrywise.{Entrywise, Revised}
use Rattle.forward.proofs.Families.{Written, zipped, turned}

module _ {S M : Type 0} (means : S → M) (o : Ops M) where
  -- row i of column v in lane b
  abbrev pub rows : Column → List S → ℕ → ℕ → M
  rows v vs b i = at means o vs (cell v.of b v.col i)

  -- by call: y gains x; y gains a·x; y times a; one value for all

  pub added : (x y X Y : Column) (k : ℕ) (xs old cur : List S) → x ≡ X → y ≡ Y
      → Lawful X (length xs) → Lawful Y (length old) → X.of.rows ≡ Y.of.rows → X.of.lanes ≡ Y.of.lanes → length cur ≡ length old
      → k ≡ first_of (pair_tests x (length xs) y (length old)) → (k ≡ 0 → Entrywise x xs y (λ p q v. means v ≡ o.plus (means q) (means p)) old cur)
      → Written means o Y (λ b i. o.plus (rows Y old b i) (rows X xs b i)) old cur
  added x y X Y k xs old cur = zipped means o (λ p q. o.plus q p) (λ p q v. means v ≡ o.plus (means q) (means p)) X x xs Y y old cur k (λ p q v e. e)

  pub gained : (a : M) (x y X Y : Column) (k : ℕ) (xs old cur : List S) → x ≡ X → y ≡ Y
      → Lawful X (length xs) → Lawful Y (length old) → X.of.rows ≡ Y.of.rows → X.of.lanes ≡ Y.of.lanes → length cur ≡ length old
      → k ≡ first_of (pair_tests x (length xs) y (length old)) → (k ≡ 0 → Entrywise x xs y (λ p q v. means v ≡ o.plus (means q) (o.times a (means p))) old cur)
      → Written means o Y (λ b i. o.plus (rows Y old b i) (o.times a (rows X xs b i))) old cur
  gained a x y X Y k xs old cur = zipped means o (λ p q. o.plus q (o.times a p)) (λ p q v. means v ≡ o.plus (means q) (o.times a (means p))) X x xs Y y old cur k (λ p q v e. e)

  pub scaled : (a : M) (y Y : Column) (k : ℕ) (old cur : List S) → y ≡ Y → Lawful Y (length old) → length cur ≡ length old
      → k ≡ first_of (column_tests y (length old)) → (k ≡ 0 → Revised y (λ q v. means v ≡ o.times (means q) a) old cur)
      → Written means o Y (λ b i. o.times (rows Y old b i) a) old cur
  scaled a y Y k old cur = turned means o (λ q. o.times q a) (λ q v. means v ≡ o.times (means q) a) Y y old cur k (λ q v e. e)

  pub filled : (value : S) (m : M) (y Y : Column) (k : ℕ) (old cur : List S) → means value ≡ m → y ≡ Y → Lawful Y (length old) → length cur ≡ length old
      → k ≡ first_of (column_tests y (length old)) → (k ≡ 0 → Revised y (λ q v. v ≡ value) old cur)
      → Written means o Y (λ b i. m) old cur
  filled value m y Y k old cur is = turned means o (λ q. m) (λ q v. v ≡ value) Y y old cur k (λ q v e. ap means e ∙ is)

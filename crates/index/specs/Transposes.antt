-- The transposes of gather and scatter: what they make of two columns of weights, and when. Assumes nothing.
use Rattle.std.specs.Prelude.{◌≡◌, ℕ, suc, Bool, not, List, [], ◌∷◌, ◌++◌, length, ◌==◌, slice_index_or, if◌then◌else◌}
use Rattle.scalar.specs.Ops.{Ops}
use Rattle.shape.specs.Shapes.{cell, Lawful}
use Rattle.shape.specs.Operands.{two_tests}
use Rattle.shape.specs.Changes.{Changed, InColumn}
use Rattle.shape.specs.declared.operand.Column.{Column}
use Rattle.index.specs.Indices.{outside, Inside}

-- f with x at the place k
abbrev pub put : {A : Type 0} → (ℕ → A) → ℕ → A → ℕ → A
put f k x l = if k == l then x else f l

module _ {M : Type 0} (o : Ops M) where
  -- q after each entry of the list, from place i on, has added row i of p to the row that it names
  abbrev pub gathered_back : List ℕ → ℕ → (ℕ → M) → (ℕ → M) → ℕ → M
  gathered_back [] i p q = q
  gathered_back (k ∷ ks) i p q = gathered_back ks (suc i) p (put q k (o.plus (q k) (p i)))

  -- p and q, the last entry first: row i of p gains the row of q that the entry names, which becomes zero
  abbrev pub scattered_back : List ℕ → ℕ → (ℕ → M) → (ℕ → M) → (ℕ → M) × (ℕ → M)
  scattered_back [] i p q = (p, q)
  scattered_back (k ∷ ks) i p q =
      let w = scattered_back ks (suc i) p q in
      (put w.0 i (o.plus (w.0 i) (w.1 k)), put w.1 k o.zero)

-- lane b of column v as rows, at any default
abbrev pub lane : {S M : Type 0} → (S → M) → Column → List S → ℕ → S → ℕ → M
lane means v vs b d k = means (slice_index_or vs (cell v.of b v.col k) d)

-- every row of column q means what the transpose of gather makes
abbrev pub GatheredBack : {S M : Type 0} → (S → M) → Ops M → List ℕ → Column → List S → Column → List S → List S → Type 0
GatheredBack {S = S} means o list p ps q old cur =
    Changed q.of (InColumn q.col) (λ b j k v. (d : S) → means v ≡ gathered_back o list 0 (lane means p ps b d) (lane means q old b d) k) old cur

-- every row of both means what the transpose of scatter makes
abbrev pub ScatteredBack : {S M : Type 0} → (S → M) → Ops M → List ℕ → Column → List S → List S → Column → List S → List S → Type 0
ScatteredBack {S = S} means o list p ps ps' q qs qs' =
    Changed p.of (InColumn p.col) (λ b j k v. (d : S) → means v ≡ (scattered_back o list 0 (lane means p ps b d) (lane means q qs b d)).0 k) ps ps'
    × Changed q.of (InColumn q.col) (λ b j k v. (d : S) → means v ≡ (scattered_back o list 0 (lane means p ps b d) (lane means q qs b d)).1 k) qs qs'

abbrev pub back_tests : Column → ℕ → List ℕ → Column → ℕ → List (ℕ × Bool)
back_tests p pl list q ql =
    two_tests p pl q ql
    ++ ((8, not (p.of.lanes == q.of.lanes)) ∷ (9, not (length list == p.of.rows)) ∷ (10, outside q.of.rows list) ∷ [])

pub record BackLawful (p : Column) (pl : ℕ) (list : List ℕ) (q : Column) (ql : ℕ) : Type 0 where
  pub first : Lawful p pl
  pub second : Lawful q ql
  pub lanes : p.of.lanes ≡ q.of.lanes
  pub long : length list ≡ p.of.rows
  pub inside : Inside q.of.rows list

-- The first columns of every row times a small matrix: the tests of the call, and what it leaves. Assumes nothing.
use Rattle.std.specs.Prelude.{ℕ, ◌*◌, ◌≤◌, Bool, not, ◌||◌, List, [], ◌∷◌, map, ◌==◌, nat_lt}
use Rattle.scalar.specs.Ops.{Ops}
use Rattle.shape.specs.Shapes.{no_lanes, too_large, misfit, Fits}
use Rattle.shape.specs.Changes.{Changed, meant, InBand}
use Rattle.shape.specs.declared.operand.TableShape.{TableShape}
use Rattle.product.specs.Results.{row_of}
use Rattle.differences.specs.Rows.{multiplied}
use Rattle.differences.specs.Matrices.{Small, entry_of}
use Rattle.differences.specs.declared.matrix.Matrix.{Matrix}

-- k columns, `count` numbers, `work` scalars of work memory
abbrev pub mul_cols_tests : TableShape → ℕ → ℕ → ℕ → ℕ → List (ℕ × Bool)
mul_cols_tests t len k count work =
    (1, no_lanes t)
    ∷ (2, too_large t)
    ∷ (3, misfit t len || nat_lt work 8)
    ∷ (4, nat_lt t.cols k)
    ∷ (5, nat_lt 8 k)
    ∷ (6, not (count == k * k)) ∷ []

pub record MulColsLawful (t : TableShape) (len : ℕ) (m : Matrix) (count work : ℕ) : Type 0 where
  pub fits : Fits t len
  pub room : 8 ≤ work
  pub within : m.size ≤ t.cols
  pub small : Small m count

-- the columns below k are the row times the matrix m, and no other moved
abbrev pub Multiplied : {S M : Type 0} → (S → M) → Ops M → TableShape → ℕ → (ℕ → ℕ → M) → List S → List S → Type 0
Multiplied means o t k m old cur = Changed t (InBand 0 k) (meant means (λ b j i. multiplied o (row_of means o t old b i) k m j)) old cur

-- the same as a function of the cell
abbrev pub cell_multiplied : {S M : Type 0} → (S → M) → Ops M → TableShape → Matrix → List S → List S → ℕ → ℕ → ℕ → M
cell_multiplied means o t m numbers old b j i = multiplied o (row_of means o t old b i) m.size (entry_of o m (map means numbers)) j

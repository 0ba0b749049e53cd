-- axpy with one factor for each lane: what it answers and writes. Assumes nothing.
use Rattle.std.specs.Prelude.{◌≡◌, ℕ, Bool, not, ◌||◌, List, [], ◌∷◌, ◌==◌, slice_index_or}
use Rattle.scalar.specs.Ops.{Ops}
use Rattle.shape.specs.Shapes.{cell, no_lanes, too_large, misfit, no_column, Lawful}
use Rattle.shape.specs.Lanes.{lane_for, no_broadcast}
use Rattle.shape.specs.declared.operand.Column.{Column}
use Rattle.vector.specs.Rows.{blend}

-- row i of lane b of column y means a_b·x + b·y, where a_b is the one row of lane b of the factors
abbrev pub batched : {S M : Type 0} → (S → M) → Ops M → Column → List S → Column → List S → M → Column → List S → ℕ → ℕ → ℕ → S → Type 0
batched {S = S} means o f fs x xs beta y old b j i v =
    (d : S) → means v ≡ blend o (means (slice_index_or fs (cell f.of b f.col 0) d)) (means (slice_index_or xs (cell x.of (lane_for b x.of.lanes y.of.lanes) x.col i) d)) beta (means (slice_index_or old (cell y.of b j i) d))

abbrev pub batched_tests : Column → ℕ → Column → ℕ → Column → ℕ → List (ℕ × Bool)
batched_tests f fl x xl y yl =
    (1, (no_lanes f.of || no_lanes x.of) || no_lanes y.of)
    ∷ (2, (too_large f.of || too_large x.of) || too_large y.of)
    ∷ (3, (misfit f.of fl || misfit x.of xl) || misfit y.of yl)
    ∷ (4, (no_column f || no_column x) || no_column y)
    ∷ (7, not (f.of.rows == 1) || not (x.of.rows == y.of.rows))
    ∷ (8, not (f.of.lanes == y.of.lanes) || no_broadcast x.of.lanes y.of.lanes) ∷ []

pub record BatchedLawful (f : Column) (fl : ℕ) (x : Column) (xl : ℕ) (y : Column) (yl : ℕ) : Type 0 where
  pub factors : Lawful f fl
  pub source : Lawful x xl
  pub target : Lawful y yl
  pub one : f.of.rows ≡ 1
  pub each : f.of.lanes ≡ y.of.lanes
  pub rows : x.of.rows ≡ y.of.rows

-- What a call that is made from C answers: the number, and what it leaves. Assumes nothing.
use Rattle.std.specs.Prelude.{◌≡◌, ℕ, Bool, List, ℤ, Float, if◌then◌else◌}
use Rattle.std.specs.Float.{Format}
use Rattle.scalar.specs.Floats.{rounded}
use Rattle.scalar.specs.Orders.{ordered}
use Rattle.shape.specs.Refusals.{first_of}
use Rattle.shape.specs.Shapes.{column_of}
use Rattle.shape.specs.declared.operand.TableShape.{TableShape}
use Rattle.shape.specs.declared.operand.Column.{Column}
use Rattle.norm.specs.Roots.{Agree, found, best, row}

-- the number of the first test that fits; a call that answers 0 leaves what is `done`, any other what is `kept`
pub record Answered (n : ℕ) (tests : List (ℕ × Bool)) (done kept : Type 0) : Type 0 where
  pub verdict : n ≡ first_of tests
  pub accepted : n ≡ 0 → done
  pub refused : (n ≡ 0 → ⊥) → kept

-- an operand from the numbers that stand before its memory
abbrev pub shaped : ℕ → ℕ → ℕ → TableShape
shaped rows cols lanes = record { rows = rows; cols = cols; lanes = lanes }

abbrev pub column : ℕ → ℕ → ℕ → ℕ → Column
column rows cols lanes col = column_of (shaped rows cols lanes) col

-- ---- roots

-- what the rows of a lane hold, in the three results
pub record RootIs (f : Format) (g0 g1 : ℕ → Float) (rows : ℕ) (zeros : ℕ) (part : Float) (place : ℤ) : Type 0 where
  pub found_is : zeros ≡ (if found (rounded f) (ordered f) g1 rows then 1 else 0)
  pub part_is : part ≡ best (rounded f) (ordered f) g0 g1 rows
  pub row_is : place ≡ row (rounded f) (ordered f) g0 g1 rows

-- the first test that fits, then 11 where the lanes differ; the results are those of lane 0, or `kept`
pub record RootAnswered (f : Format) (n : ℕ) (tests : List (ℕ × Bool)) (g0 g1 : ℕ → ℕ → Float) (rows lanes : ℕ) (zeros : ℕ) (part : Float) (place : ℤ) (kept : Type 0) : Type 0 where
  pub verdict : (first_of tests ≡ 0 → ⊥) → n ≡ first_of tests
  pub agree : first_of tests ≡ 0 → Agree (rounded f) (ordered f) g0 g1 rows lanes → n ≡ 0
  pub differ : first_of tests ≡ 0 → (Agree (rounded f) (ordered f) g0 g1 rows lanes → ⊥) → n ≡ 11
  pub accepted : n ≡ 0 → RootIs f (g0 0) (g1 0) rows zeros part place
  pub refused : (n ≡ 0 → ⊥) → kept

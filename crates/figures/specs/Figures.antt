-- The worked figures, over the definitions that the contracts cite. Assumes nothing.
use Rattle.std.specs.Prelude.{◌≡◌, ℕ, Bool, true, false, List, [], ◌∷◌, map, pos, negsuc, Some, slice_index, slice_index_or, Float}
use Rattle.std.specs.Float.{binary64, fin}
use Rattle.scalar.specs.Floats.{rounded, zero_float}
use Rattle.scalar.specs.Orders.{ordered}
use Rattle.shape.specs.Shapes.{whole}
use Rattle.shape.specs.Lanes.{lane_for}
use Rattle.shape.specs.Refusals.{first_of}
use Rattle.shape.specs.Operands.{pair_tests}
use Rattle.norm.specs.Roots.{found, best, row}
use Rattle.scalar.specs.Modular.{Below, modulus, residue, residues}
use Rattle.product.specs.Rows.{summed}
use Rattle.differences.specs.Rows.{updated, transposed, multiplied, number}
use Rattle.differences.specs.MulCols.{mul_cols_tests}
use Rattle.differences.specs.Updates.{update_tests}
use Rattle.steps.specs.States.{Lane}
use Rattle.steps.specs.Steps.{Step, fault}
use Rattle.steps.specs.Actions.{back_by}
use Rattle.steps.specs.declared.kind.Kind.{Kind}
use Rattle.steps.specs.declared.kind.Kind.TheVariants.{Update, Gather, Scatter}
use Rattle.shape.specs.declared.operand.TableShape.{TableShape}

-- the whole number n, negative where s is true; and the entries of a list as rows
abbrev of_int : Bool → ℕ → Float
of_int s n = fin s n (pos 0)

abbrev rows : List Float → ℕ → Float
rows xs i = slice_index_or xs i zero_float

abbrev before : ℕ → Float
before = rows (of_int false 1 ∷ of_int true 1 ∷ fin false 1 (pos 1) ∷ [])

abbrev after : ℕ → Float
after = rows (of_int true 1 ∷ of_int false 3 ∷ zero_float ∷ [])

-- residues by their numbers: a row, and the first n of what is made of it
abbrev entry : List ℕ → ℕ → Below modulus
entry xs l = residue (slice_index xs l)

abbrev numbers : (ℕ → Below modulus) → List ℕ → List ℕ
numbers f places = map (λ j. (f j).number) places

-- one row and nine columns in one lane
abbrev nine : TableShape
nine = record { rows = 1; cols = 9; lanes = 1 }

-- weights p and q, and a zero table, carried back through a kind with a list
abbrev carried : Kind → List ℕ → List ℕ → List ℕ → Lane (Below modulus)
carried kind list p q = back_by residues kind [] list (record { table = λ j i. residue 0; first = entry p; second = entry q })

-- a step of a kind that takes no numbers and no list
abbrev plain : Kind → Step (Below modulus)
plain kind = record { kind = kind; numbers = Some []; list = Some [] }

pub record Figures : Type 0 where
  -- two lanes into six read 0 0 0 1 1 1
  pub two_into_six : map (λ b. lane_for b 2 6) (0 ∷ 1 ∷ 2 ∷ 3 ∷ 4 ∷ 5 ∷ []) ≡ 0 ∷ 0 ∷ 0 ∷ 1 ∷ 1 ∷ 1 ∷ []
  -- four lanes of one row into six are refused with 8
  pub four_into_six : first_of (pair_tests (whole 1 4) 4 (whole 1 6) 6) ≡ 8
  -- the roots of g0 = (1, −1, 2), g1 = (−1, 3, 0) are yes, 0.75 = 3·2^−2, row 1
  pub roots_found : found (rounded binary64) (ordered binary64) after 3 ≡ true
  pub roots_fraction : best (rounded binary64) (ordered binary64) before after 3 ≡ fin false 3 (negsuc 1)
  pub roots_row : row (rounded binary64) (ordered binary64) before after 3 ≡ pos 1
  -- row (2, 3, 5), d = 7, order 0: the update gives (9, 7, 4)
  pub update_row : numbers (updated residues (entry (2 ∷ 3 ∷ 5 ∷ [])) (residue 7) 0) (0 ∷ 1 ∷ 2 ∷ []) ≡ 9 ∷ 7 ∷ 4 ∷ []
  -- its transpose on (1, 10, 100), order 0, gives 111 and (1, −100, 0); −100 is 2,147,483,547
  pub transpose_sum : (summed residues (entry (1 ∷ 10 ∷ 100 ∷ [])) 0 3 (residue 1) (residue 0) (λ l. residue 1) (residue 0)).number ≡ 111
  pub transpose_row : numbers (multiplied residues (entry (1 ∷ 10 ∷ 100 ∷ [])) 3 (transposed residues 0)) (0 ∷ 1 ∷ 2 ∷ []) ≡ 1 ∷ 2147483547 ∷ 0 ∷ []
  -- row (5, 7) times the numbers 1, 3, 2, 4 gives (26, 38)
  pub product_row : numbers (multiplied residues (entry (5 ∷ 7 ∷ [])) 2 (number residues 2 (map residue (1 ∷ 3 ∷ 2 ∷ 4 ∷ [])))) (0 ∷ 1 ∷ []) ≡ 26 ∷ 38 ∷ []
  -- 8 columns pass and 9 are refused with 5
  pub eight_pass : first_of (mul_cols_tests nine 9 8 64 8) ≡ 0
  pub nine_refused : first_of (mul_cols_tests nine 9 9 81 8) ≡ 5
  -- order 6 on 9 columns passes the update, and is refused with 5 as a step
  pub order_six : first_of (update_tests nine 9 6 (whole 1 1) 1) ≡ 0
  pub order_six_step : fault 1 9 (plain (Update 6)) ≡ 5
  -- scatter 0, 0 carried back: p (0, 0), q (10, 20) give (0, 10) and (0, 20)
  pub scatter_first : numbers (carried Scatter (0 ∷ 0 ∷ []) (0 ∷ 0 ∷ []) (10 ∷ 20 ∷ [])).first (0 ∷ 1 ∷ []) ≡ 0 ∷ 10 ∷ []
  pub scatter_second : numbers (carried Scatter (0 ∷ 0 ∷ []) (0 ∷ 0 ∷ []) (10 ∷ 20 ∷ [])).second (0 ∷ 1 ∷ []) ≡ 0 ∷ 20 ∷ []
  -- gather 1, 1 carried back: p (10, 20), q (0, 0) give (0, 0) and (0, 30)
  pub gather_first : numbers (carried Gather (1 ∷ 1 ∷ []) (10 ∷ 20 ∷ []) (0 ∷ 0 ∷ [])).first (0 ∷ 1 ∷ []) ≡ 0 ∷ 0 ∷ []
  pub gather_second : numbers (carried Gather (1 ∷ 1 ∷ []) (10 ∷ 20 ∷ []) (0 ∷ 0 ∷ [])).second (0 ∷ 1 ∷ []) ≡ 0 ∷ 30 ∷ []

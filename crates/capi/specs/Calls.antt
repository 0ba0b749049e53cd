-- The exported calls in the library's words, over a format of IEEE 754: n is the answer, `old` the memory that is
-- written before the call and `cur` after it. Assumes nothing.
use Rattle.std.specs.Prelude.{◌≡◌, ℕ, ◌-◌, List, map, length, ℤ, Float}
use Rattle.std.specs.Float.{Format}
use Rattle.scalar.specs.Floats.{rounded}
use Rattle.scalar.specs.Orders.{ordered}
use Rattle.shape.specs.Operands.{pair_tests}
use Rattle.shape.specs.declared.operand.TableShape.{TableShape}
use Rattle.shape.specs.declared.operand.Column.{Column}
use Rattle.elementwise.specs.Entrywise.{Entrywise}
use Rattle.vector.specs.Rows.{blend}
use Rattle.vector.specs.Batched.{batched, batched_tests}
use Rattle.index.specs.Calls.{gather_tests, scatter_tests, Routed}
use Rattle.index.specs.declared.route.Route.TheVariants.{Gather, Scatter}
use Rattle.norm.specs.Norms.{reduced, lane_norm, norm_tests}
use Rattle.norm.specs.Roots.{lane0, lane1}
use Rattle.product.specs.Rows.{summed}
use Rattle.product.specs.Tests.{gemv_tests, gemv_cols_tests, ger_cols_tests}
use Rattle.product.specs.Results.{Gemv, GemvCols, GerCols}
use Rattle.differences.specs.Rows.{number}
use Rattle.differences.specs.MulCols.{mul_cols_tests, Multiplied}
use Rattle.differences.specs.Updates.{update_tests, Updated}
use Rattle.differences.specs.Transposes.{transpose_tests, Transposed}
use Rattle.shape.specs.Changes.{Changed, InColumn}
use Rattle.capi.specs.Answers.{Answered, RootAnswered}

-- a float means itself
abbrev pub itself : Float → Float
itself v = v

module _ (f : Format) where
  -- y := a·x + b·y
  abbrev pub AxpyAnswers : ℕ → Float → Column → List Float → Float → Column → List Float → List Float → Type 0
  AxpyAnswers n a x xs b y old cur =
      Answered n (pair_tests x (length xs) y (length old)) (Entrywise x xs y (λ p q v. v ≡ blend (rounded f) a p b q) old cur) (cur ≡ old)

  -- the same with a factor for each lane
  abbrev pub BatchedAxpyAnswers : ℕ → Column → List Float → Column → List Float → Float → Column → List Float → List Float → Type 0
  BatchedAxpyAnswers n a factors x xs b y old cur =
      Answered n (batched_tests a (length factors) x (length xs) y (length old)) (Changed y.of (InColumn y.col) (batched itself (rounded f) a factors x xs b y old) old cur) (cur ≡ old)

  -- y := a·t·x + b·y
  abbrev pub GemvAnswers : ℕ → Float → TableShape → List Float → Column → List Float → Float → Column → List Float → List Float → Type 0
  GemvAnswers n a t ts x xs b y old cur =
      Answered n (gemv_tests t (length ts) x (length xs) y (length old)) (Gemv itself (rounded f) (summed (rounded f)) a t ts x xs b y old cur) (cur ≡ old)

  -- the same on columns `start` to `end` − 1
  abbrev pub GemvColsAnswers : ℕ → ℕ → ℕ → Float → TableShape → List Float → List Float → Float → Column → List Float → List Float → Type 0
  GemvColsAnswers n start end a t ts x b y old cur =
      Answered n (gemv_cols_tests t (length ts) start end (length x) y (length old)) (GemvCols itself (rounded f) (summed (rounded f)) a t ts start (end - start) x b y old cur) (cur ≡ old)

  -- those columns gain a·p·xᵀ
  abbrev pub GerColsAnswers : ℕ → ℕ → ℕ → Float → List Float → Column → List Float → TableShape → List Float → List Float → Type 0
  GerColsAnswers n start end a x p ps t old cur =
      Answered n (ger_cols_tests t (length old) start end (length x) p (length ps)) (GerCols itself (rounded f) a x p ps t start (end - start) old cur) (cur ≡ old)

  -- the first k columns times the matrix m
  abbrev pub MulColsAnswers : ℕ → ℕ → List Float → TableShape → List Float → List Float → List Float → List Float → Type 0
  MulColsAnswers n k m t old cur work work' =
      Answered n (mul_cols_tests t (length old) k (length m) (length work)) (Multiplied itself (rounded f) t k (number (rounded f) k (map itself m)) old cur) ((cur ≡ old) × (work' ≡ work))

  -- and its transpose
  abbrev pub MulColsTransposeAnswers : ℕ → ℕ → List Float → TableShape → List Float → List Float → List Float → List Float → Type 0
  MulColsTransposeAnswers n k m t old cur work work' =
      Answered n (mul_cols_tests t (length old) k (length m) (length work)) (Multiplied itself (rounded f) t k (λ j l. number (rounded f) k (map itself m) l j) old cur) ((cur ≡ old) × (work' ≡ work))

  -- the table takes the difference d
  abbrev pub UpdateAnswers : ℕ → ℕ → Column → List Float → TableShape → List Float → List Float → Type 0
  UpdateAnswers n order d ds t old cur =
      Answered n (update_tests t (length old) order d (length ds)) (Updated itself (rounded f) t order d ds old cur) (cur ≡ old)

  -- and its transpose, which writes the table and d
  abbrev pub UpdateTransposeAnswers : ℕ → ℕ → TableShape → List Float → List Float → Column → List Float → List Float → List Float → List Float → Type 0
  UpdateTransposeAnswers n order t ts ts' d ds ds' work work' =
      Answered n (transpose_tests t (length ts) order d (length ds) (length work)) (Transposed itself (rounded f) t order d ts ts' ds ds') ((ts' ≡ ts) × (ds' ≡ ds) × (work' ≡ work))

  -- the mean over the rows of (x / (|y|·rtol + atol))², the greatest of several lanes
  abbrev pub NormAnswers : ℕ → Column → List Float → Column → List Float → Column → List Float → Float → Float → Float → Type 0
  NormAnswers n x xs y ys atol atols rtol old cur =
      Answered n (norm_tests x (length xs) y (length ys) atol (length atols)) (cur ≡ reduced (rounded f) (ordered f) (lane_norm itself (rounded f) (ordered f) x xs y ys atol atols rtol) x.of.lanes) (cur ≡ old)

  -- where g goes through zero
  abbrev pub RootAnswers : ℕ → Column → List Float → Column → List Float → ℕ → Float → ℤ → ℕ → Float → ℤ → Type 0
  RootAnswers n g0 g0s g1 g1s found fraction row found' fraction' row' =
      RootAnswered f n (pair_tests g1 (length g1s) g0 (length g0s)) (lane0 itself (rounded f) g0 g0s) (lane1 itself (rounded f) g0 g1 g1s) g0.of.rows g0.of.lanes
      found' fraction' row' ((found' ≡ found) × (fraction' ≡ fraction) × (row' ≡ row))

-- y_i := x_list(i)
abbrev pub GatherAnswers : ℕ → List ℕ → Column → List Float → Column → List Float → List Float → Type 0
GatherAnswers n list x xs y old cur =
    Answered n (gather_tests x (length xs) list y (length old)) (Routed Gather x xs list y old cur) (cur ≡ old)

-- y_list(i) := x_i
abbrev pub ScatterAnswers : ℕ → List ℕ → Column → List Float → Column → List Float → List Float → Type 0
ScatterAnswers n list x xs y old cur =
    Answered n (scatter_tests x (length xs) list y (length old)) (Routed Scatter x xs list y old cur) (cur ≡ old)

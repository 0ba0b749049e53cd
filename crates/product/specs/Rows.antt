-- What the matrix-vector calls make of one row, over the operations of any scalar. Assumes nothing.
use Rattle.std.specs.Prelude.{ℕ, zero, suc, ◌+◌, ◌-◌, cond, ◌&&◌, nat_le, nat_lt}
use Rattle.scalar.specs.Ops.{Ops}
use Rattle.scalar.specs.Sums.{sum, sum_from}
use Rattle.vector.specs.Rows.{blend}

-- a row by columns, the first column and the count of a range, factors a and b, coefficients and an old entry make an entry
abbrev pub RowSum : Type 0 → Type 0
RowSum M = (ℕ → M) → ℕ → ℕ → M → M → (ℕ → M) → M → M

module _ {M : Type 0} (o : Ops M) where
  -- n columns of the row d, from `start` on, times the coefficients x, onto b·y: the first gives (a·d)·x + b·y
  -- by axpy's rule for b, each later one adds (a·d)·x; with no columns b·y, or zero where b is zero
  abbrev pub summed : RowSum M
  summed d start zero a b x y = cond (o.is_zero b) o.zero (o.times b y)
  summed d start (suc n) a b x y = sum_from o (blend o (o.times a (d start)) (x 0) b y) (λ l. o.times (o.times a (d (start + suc l))) (x (suc l))) n

  -- BLAS's definition of gemv: a·(Σ d·x) + b·y
  abbrev pub linear : RowSum M
  linear d start n a b x y = o.plus (o.times a (sum o (λ l. o.times (d (start + l)) (x l)) n)) (o.times b y)

  -- BLAS's ger: of the row e, each of the n columns from `start` on gains (a·x)·p, with its own coefficient x
  abbrev pub spread : (ℕ → M) → ℕ → ℕ → M → (ℕ → M) → M → ℕ → M
  spread e start n a x p j = cond (nat_le start j && nat_lt j (start + n)) (o.plus (e j) (o.times (o.times a (x (j - start))) p)) (e j)

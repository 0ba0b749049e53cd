-- What a call leaves out of its reach, whether it accepts or refuses. Assumes nothing.
use Rattle.std.proofs.Common.{◌≡◌, ℕ, List, Ok, Err, Result, get_or, ap, subst, arith}
use Rattle.std.specs.Prelude.{OnOk, OnErr}
use Rattle.shape.specs.Shapes.{cell, column_of}
use Rattle.shape.specs.Changes.{Changed, InColumn}
use Rattle.shape.specs.declared.operand.TableShape.{TableShape}
use Rattle.shape.specs.declared.operand.Column.{Column}
use Rattle.shape.specs.declared.refusal.Refusal.{Refusal}
use Rattle.state.specs.Reach.{ColumnsKept}

module _ {S A Told Left : Type 0} (t : TableShape) (from n : ℕ) (old cur : List S) where
  -- of a call that tells what it changed where it accepts, and leaves the table where it refuses
  pub columns_kept : (r : Result A Refusal) → (Told → ColumnsKept t from n old cur) → (Left → cur ≡ old) → OnOk r Told → OnErr r Left → ColumnsKept t from n old cur
  columns_kept (Ok x) told left done none = told done
  columns_kept (Err f) told left done none = λ b j i d w out. ap (λ z. get_or z (cell t b j i) d) (left none)

-- of a call on one column
pub column_kept : {S A : Type 0} (t : TableShape) (j : ℕ) (v : Column) (P : ℕ → ℕ → ℕ → S → Type 0) (old cur : List S) (r : Result A Refusal) → v ≡ column_of t j
    → OnOk r (Changed v.of (InColumn v.col) P old cur) → OnErr r (cur ≡ old) → ColumnsKept t j 1 old cur
column_kept t j v P old cur r is done none =
    columns_kept t j 1 old cur r (λ c b k i d w out. c.kept b k i d w (λ e. out (omega arith, omega arith))) (λ e. e)
    (subst (λ (u : Column). OnOk r (Changed u.of (InColumn u.col) P old cur)) is done) none

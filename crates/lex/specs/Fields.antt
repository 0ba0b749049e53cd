-- Fields read into memory. Assumes nothing.
use Rattle.std.specs.Prelude.{◌≡◌, ℕ, ◌+◌, ◌≤◌, List, length, take, drop, Some, Option}
use Rattle.std.proofs.Math.Seq.{paste}
use Rattle.lex.specs.Lines.{more}
use Rattle.lex.specs.Numbers.{all}

-- of the fields fs, at most `most` were read, n in all, into memory from the place `at` on, as far as there is room; `tail` has the others
pub record FieldsRead {X : Type 0} (rule : List ℕ → Option X) (fs : List (List ℕ)) (most : ℕ) (old new : List X) (at n : ℕ) (tail : List ℕ) : Type 0 where
  -- what they spell
  pub got : List X
  pub are : all rule (take most fs) ≡ Some got
  pub many : n ≡ length got
  pub others : more tail ≡ drop most fs
  pub stored : at + n ≤ length old → new ≡ paste old at got n

-- A program holds what lines say. Assumes nothing.
use Rattle.std.specs.Prelude.{◌≡◌, ℕ, ◌+◌, ◌*◌, ◌<◌, ◌≤◌, Bool, true, false, List, ◌++◌, length, take, ℤ, pos, Some, None, Ok, Err, Option, Result, slice_index_or}
use Rattle.shape.specs.Refusals.{answer}
use Rattle.shape.specs.declared.refusal.Refusal.{Refusal}
use Rattle.words.specs.declared.Memory.{Memory}
use Rattle.reader.specs.declared.program.Program.{Program}
use Rattle.reader.specs.Grammar.{Line}
use Rattle.reader.specs.Judged.{fault_after, with}
use Rattle.reader.specs.Said.{ring_in, shape_in, memory_number, value_in, steps_in, numbers_in, indices_in, records_from}

-- where a memory begins: each has room for 1,024 values
abbrev pub base : Memory → ℕ
base m = memory_number m * 1024

-- p holds what the lines ls say
pub record Held (ls : List Line) (p : Program) : Type 0 where
  pub ring : p.ring ≡ ring_in ls
  pub shape : p.shape ≡ shape_in ls
  pub cells : (m : Memory) (k : ℕ) → k < 1024 → slice_index_or p.cells (base m + k) (pos 0) ≡ value_in ls m k
  pub steps : take p.taken p.steps ≡ records_from 0 0 (steps_in ls)
  pub numbers : take p.used p.numbers ≡ numbers_in ls
  pub indices : take p.listed p.indices ≡ indices_in ls

-- ---- what one line more does

-- ls with the line x where it is accepted
abbrev pub kept : {A : Type 0} → List Line → Option Line → Result A Refusal → List Line
kept ls x (Ok u) = with ls x
kept ls x (Err f) = ls

-- after the lawful lines ls a line of the form x got the answer r, and p holds what is lawful
pub record Followed {A : Type 0} (ls : List Line) (x : Option Line) (r : Result A Refusal) (p : Program) : Type 0 where
  pub number : answer r ≡ fault_after ls x
  pub held : Held (kept ls x r) p

-- behind the numbers and indices of p lie those of one step more, as far as there is room
pub record Ahead (p : Program) (ns : List ℤ) (is : List ℕ) (number_count list_count : ℕ) : Type 0 where
  pub number_count_is : number_count ≡ length ns
  pub list_count_is : list_count ≡ length is
  pub numbers : p.used + number_count ≤ 1024 → take (p.used + number_count) p.numbers ≡ take p.used p.numbers ++ ns
  pub indices : p.listed + list_count ≤ 1024 → take (p.listed + list_count) p.indices ≡ take p.listed p.indices ++ is

-- place k, below 1,024, of the memory that begins at `from`, where the test holds
abbrev pub IsPlace : Option ℕ → Bool → ℕ → ℕ → Type 0
IsPlace None inside from k = inside ≡ false
IsPlace (Some x) inside from k = (inside ≡ true) × ((x ≡ from + k) × ((k < 1024) × (x < 6144)))

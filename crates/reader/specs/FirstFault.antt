-- The judgement of a text as rules: which lines are lawful, and where they stop. Assumes nothing.
use Rattle.std.specs.Prelude.{◌≡◌, ℕ, ◌+◌, List, [], ◌∷◌, ◌++◌, length, take, drop, map, Some, None, Option, ◌≢◌, if◌then◌else◌}
use Rattle.lex.specs.Lines.{lines, fields}
use Rattle.reader.specs.Grammar.{Line, line_of}
use Rattle.reader.specs.Judged.{Judged, sized, fault_after}

-- the lines of a text, None for one of no stated form
abbrev pub forms : List ℕ → List (Option Line)
forms text = map (λ t. line_of (fields t)) (lines text)

-- no lines are lawful, and so are lawful lines with a line behind them that has no fault there
pub data Lawful : List Line → Type 0 where
  none : Lawful []
  behind : (ls : List Line) (x : Line) → Lawful ls → fault_after ls (Some x) ≡ 0 → Lawful (ls ++ x ∷ [])

-- the lawful lines ls stop at the end of the text, whole or with ring or size due, or before a line that has a fault there
abbrev pub Stops : List Line → List (Option Line) → Option (ℕ × ℕ) → Type 0
Stops ls [] fault = fault ≡ (if sized ls then None else Some (length ls + 1, 13))
Stops ls (x ∷ xs) fault = (fault_after ls x ≢ 0) × (fault ≡ Some (length ls + 1, fault_after ls x))

-- the text begins with lawful lines, and the fault is where they stop
pub record FirstFault (text : List ℕ) (j : Judged) : Type 0 where
  pub lawful : Lawful j.lawful
  pub begins : take (length j.lawful) (forms text) ≡ map Some j.lawful
  pub stops : Stops j.lawful (drop (length j.lawful) (forms text)) j.fault

-- A program that holds what lines say, one line later. Assumes nothing.
use Rattle.std.proofs.Common.{◌≡◌, ℕ, ◌+◌, ◌*◌, ◌<◌, ◌≤◌, Bool, true, cond, ◌&&◌, eqb, ◌⊎◌, List, [], ◌∷◌, ◌++◌, length, suc, append-nil, get_or, take, set, ℤ, pos, Some, None, Err, Option, Result, sym, refl, ap, ◌∙◌, subst, zero-add, add-zero, arith}
use lib.Seq.{paste}
use Rattle.std.proofs.lemmas.List.{take_more_set, take_all, length-take-le}
use Rattle.std.proofs.lemmas.List.Edits.{take-paste}
use Rattle.std.proofs.lemmas.Bool.{and_from, lt-ltb}
use Rattle.std.proofs.lemmas.Bool.Decides.{nat_tests}
use Rattle.shape.specs.Shapes.{In, Fits, cells as cell_count, cell as cell_of}
use Rattle.shape.specs.declared.refusal.Refusal.{Refusal}
use Rattle.shape.specs.declared.refusal.Refusal.TheVariants.{Malformed}
use Rattle.shape.specs.declared.operand.TableShape.{TableShape}
use Rattle.shape.proofs.Blocks.{cell_fits}
use Rattle.steps.specs.declared.kind.Kind.{Kind}
use Rattle.steps.specs.Steps.{Step}
use Rattle.state.specs.declared.record.StepRecord.{StepRecord}
use Rattle.words.specs.declared.Memory.{Memory}
use Rattle.words.specs.declared.Memory.TheVariants.{D, E, U, V, P, Q}
use Rattle.reader.specs.declared.program.Program.{Program}
use Rattle.reader.specs.Grammar.{Line}
use Rattle.reader.specs.Grammar.Line.{cell, step}
use Rattle.reader.specs.Said.{shape_in, memory_number, memory_shape, value_in, steps_in, numbers_in, indices_in, records_from}
use Rattle.reader.specs.Judged.{inside, fault_after}
use Rattle.reader.specs.Held.{Held, Followed, Ahead, base}
use Rattle.reader.proofs.Growth.{ring_more, shape_more, steps_more, numbers_more, indices_more, value_more, records_more, set_cell, same_slot}

-- ---- the answer to a line

-- a line of no stated form
pub no_form : {A : Type 0} (ls : List Line) (x : Option Line) (p : Program) → x ≡ None → Held ls p → Followed {A = A} ls x (Err Malformed) p
no_form ls x p e h = record { number = ap (fault_after ls) (sym e); held = h }

-- what is known of a line's form is known of its fields
pub of_form : {A : Type 0} (ls : List Line) (x y : Option Line) (r : Result A Refusal) (p : Program) → x ≡ y → Followed ls y r p → Followed ls x r p
of_form ls x y r p e f = subst (λ (o : Option Line). Followed ls o r p) (sym e) f

-- the same but for what lies behind the numbers and the indices
pub held_same : (ls : List Line) (p q : Program) → Held ls p → q.ring ≡ p.ring → q.shape ≡ p.shape → q.cells ≡ p.cells → q.steps ≡ p.steps → q.taken ≡ p.taken
    → take q.used q.numbers ≡ take p.used p.numbers → take q.listed q.indices ≡ take p.listed p.indices → Held ls q
held_same ls p q h e-ring e-shape e-cells e-steps e-taken e-numbers e-indices = record {
  ring = e-ring ∙ h.ring;
  shape = e-shape ∙ h.shape;
  cells = λ m k lt. ap (λ (cs : List ℤ). get_or cs (base m + k) (pos 0)) e-cells ∙ h.cells m k lt;
  steps = ap (λ (n : ℕ). take n q.steps) e-taken ∙ ap (take p.taken) e-steps ∙ h.steps;
  numbers = e-numbers ∙ h.numbers;
  indices = e-indices ∙ h.indices;
}

-- ---- a cell

few_memories : (m : Memory) → memory_number m ≤ 5
few_memories D = omega arith
few_memories E = omega arith
few_memories U = omega arith
few_memories V = omega arith
few_memories P = omega arith
few_memories Q = omega arith

pub base_fits : (m : Memory) (k : ℕ) → k < 1024 → base m + k < 6144
base_fits m k h = let f = few_memories m in omega arith

-- a memory's shape is lawful, and has at most 1,024 cells
module _ (t : TableShape) (lawful : Fits t (cell_count t)) (table : cell_count t ≤ 1024) (vector : t.rows * t.lanes ≤ 1024) where
  fits_memory : (m : Memory) → Fits (memory_shape t m) (cell_count (memory_shape t m))
  fits_memory D = lawful
  fits_memory E = lawful
  fits_memory U = record { some = lawful.some; few_rows = lawful.few_rows; few_cols = omega arith; few_lanes = lawful.few_lanes; size = refl }
  fits_memory V = record { some = lawful.some; few_rows = lawful.few_rows; few_cols = omega arith; few_lanes = lawful.few_lanes; size = refl }
  fits_memory P = record { some = lawful.some; few_rows = lawful.few_rows; few_cols = omega arith; few_lanes = lawful.few_lanes; size = refl }
  fits_memory Q = record { some = lawful.some; few_rows = lawful.few_rows; few_cols = omega arith; few_lanes = lawful.few_lanes; size = refl }

  few_cells : (m : Memory) → cell_count (memory_shape t m) ≤ 1024
  few_cells D = table
  few_cells E = table
  few_cells U = omega arith
  few_cells V = omega arith
  few_cells P = omega arith
  few_cells Q = omega arith

  pub cell_low : (m : Memory) (b j i : ℕ) → In (memory_shape t m) b j i → cell_of (memory_shape t m) b j i < 1024
  cell_low m b j i w = let c = cell_fits (memory_shape t m) _ b j i (fits_memory m) w in let f = few_cells m in omega arith

pub inside_of : (t : TableShape) (b j i : ℕ) → In t b j i → inside t b j i ≡ true
inside_of t b j i w = and_from _ _ (lt-ltb b t.lanes w.lane) (and_from _ _ (lt-ltb j t.cols w.col) (lt-ltb i t.rows w.row))

pub held_cell : (ls : List Line) (p q : Program) (m : Memory) (b j i : ℕ) (v : ℤ) (at : ℕ) → Held ls p → 2 ≤ length ls → length p.cells ≡ 6144
    → cell_of (memory_shape p.shape m) b j i < 1024 → at ≡ base m + cell_of (memory_shape p.shape m) b j i
    → q.ring ≡ p.ring → q.shape ≡ p.shape → q.cells ≡ set p.cells at v → q.steps ≡ p.steps → q.taken ≡ p.taken → q.numbers ≡ p.numbers → q.used ≡ p.used → q.indices ≡ p.indices → q.listed ≡ p.listed
    → Held (ls ++ cell m b j i v ∷ []) q
held_cell ls p q m b j i v at h two long low e-at e-ring e-shape e-cells e-steps e-taken e-numbers e-used e-indices e-listed =
    let x = cell m b j i v in
    let place : TableShape → ℕ = λ t. cell_of (memory_shape t m) b j i in
    let fit = base_fits m (place p.shape) low in
    let room : at < length p.cells = omega arith in
    record {
      ring = e-ring ∙ h.ring ∙ sym (ring_more ls x);
      shape = e-shape ∙ h.shape ∙ sym (shape_more ls x);
      cells = λ m' k less.
          ap (λ (cs : List ℤ). get_or cs (base m' + k) (pos 0)) e-cells ∙ set_cell p.cells at (base m' + k) v room
          ∙ ap (λ (n : ℕ). cond (eqb n (base m' + k)) v (get_or p.cells (base m' + k) (pos 0))) e-at
          ∙ ap (λ (y : Bool). cond y v (get_or p.cells (base m' + k) (pos 0))) (same_slot (memory_number m) (memory_number m') (place p.shape) k low less)
          ∙ ap (λ (z : ℤ). cond (eqb (memory_number m) (memory_number m') && eqb (place p.shape) k) v z) (h.cells m' k less)
          ∙ ap (λ (t : TableShape). cond (eqb (memory_number m) (memory_number m') && eqb (place t) k) v (value_in ls m' k)) h.shape
          ∙ sym (value_more ls x m' k two refl);
      steps = ap (λ (n : ℕ). take n q.steps) e-taken ∙ ap (take p.taken) e-steps ∙ h.steps ∙ ap (records_from 0 0) (sym (steps_more ls x ∙ append-nil (steps_in ls)));
      numbers = ap (λ (n : ℕ). take n q.numbers) e-used ∙ ap (take p.used) e-numbers ∙ h.numbers ∙ sym (numbers_more ls x ∙ append-nil (numbers_in ls));
      indices = ap (λ (n : ℕ). take n q.indices) e-listed ∙ ap (take p.listed) e-indices ∙ h.indices ∙ sym (indices_more ls x ∙ append-nil (indices_in ls));
    }

-- ---- a step

-- what was read behind the first entries follows them
pub read_behind : {X : Type 0} (old new got : List X) (at n : ℕ) → n ≡ length got → at ≤ length old → take at new ≡ take at old → new ≡ paste old at got n → take (at + n) new ≡ take at new ++ got
read_behind old new got at n l le before stored =
    let ln : n ≤ length got = omega arith in
    let nl : length got ≤ n = omega arith in
    ap (take (at + n)) stored ∙ take-paste old at got n le ln ∙ ap (λ xs. take at old ++ xs) (take_all n got nl) ∙ ap (λ xs. xs ++ got) (sym before)

pub none_behind : {X : Type 0} (xs : List X) (at : ℕ) → take (at + 0) xs ≡ take at xs ++ []
none_behind xs at = ap (λ (n : ℕ). take n xs) (add-zero at) ∙ sym (append-nil (take at xs))

-- the arrays have their lengths
pub record Long (p : Program) : Type 0 where
  pub steps : length p.steps ≡ 64
  pub numbers : length p.numbers ≡ 1024
  pub indices : length p.indices ≡ 1024

length_records : (xs : List (Step ℤ)) (n i : ℕ) → length (records_from n i xs) ≡ length xs
length_records [] n i = refl
length_records (x ∷ xs) n i = ap suc (length_records xs _ _)

module _ (ls : List Line) (p : Program) (h : Held ls p) (long : Long p) where
  pub taken_is : length (steps_in ls) ≡ p.taken
  taken_is =
      let le : p.taken ≤ length p.steps = omega (arith, p.steps_fit, long.steps) in
      sym (length_records (steps_in ls) 0 0) ∙ sym (ap length h.steps) ∙ length-take-le p.taken p.steps le

  pub used_is : length (numbers_in ls) ≡ p.used
  used_is = let le : p.used ≤ length p.numbers = omega (arith, p.numbers_fit, long.numbers) in sym (ap length h.numbers) ∙ length-take-le p.used p.numbers le

  pub listed_is : length (indices_in ls) ≡ p.listed
  listed_is = let le : p.listed ≤ length p.indices = omega (arith, p.indices_fit, long.indices) in sym (ap length h.indices) ∙ length-take-le p.listed p.indices le

  pub fine_cell : (m : Memory) (b j i : ℕ) (v : ℤ) → 2 ≤ length ls → p.taken ≤ 0 → inside (memory_shape p.shape m) b j i ≡ true → 0 ≡ fault_after ls (Some (cell m b j i v))
  fine_cell m b j i v two none e =
      let s = taken_is in
      let e' : inside (memory_shape (shape_in ls) m) b j i ≡ true = ap (λ (t : TableShape). inside (memory_shape t m) b j i) (sym h.shape) ∙ e in
      grind (arith, nat_tests)

  module _ (k : Kind) (ns : List ℤ) (is : List ℕ) (two : 2 ≤ length ls) where
    pub too_much : (64 ≤ p.taken) ⊎ ((1024 < p.used + length ns) ⊎ (1024 < p.listed + length is)) → 14 ≡ fault_after ls (Some (step k ns is))
    too_much o = let s = taken_is in let u = used_is in let i = listed_is in grind (arith, nat_tests)

    pub fine : p.taken < 64 → p.used + length ns ≤ 1024 → p.listed + length is ≤ 1024 → 0 ≡ fault_after ls (Some (step k ns is))
    fine a b c = let s = taken_is in let u = used_is in let i = listed_is in grind (arith, nat_tests)

    pub held_step : (q : Program) (number_count list_count : ℕ) → Ahead p ns is number_count list_count → p.taken < 64 → p.used + number_count ≤ 1024 → p.listed + list_count ≤ 1024
        → q.ring ≡ p.ring → q.shape ≡ p.shape → q.cells ≡ p.cells
        → q.steps ≡ set p.steps p.taken (record { kind = k; numbers_at = p.used; number_count = number_count; list_at = p.listed; list_count = list_count }) → q.taken ≡ p.taken + 1
        → q.numbers ≡ p.numbers → q.used ≡ p.used + number_count → q.indices ≡ p.indices → q.listed ≡ p.listed + list_count
        → Held (ls ++ step k ns is ∷ []) q
    held_step q nc lc a low b c e-ring e-shape e-cells e-steps e-taken e-numbers e-used e-indices e-listed =
        let x = step k ns is in
        let given : Step ℤ = record { kind = k; numbers = Some ns; list = Some is } in
        let room : p.taken < length p.steps = omega (arith, long.steps) in
        let rec : ℕ → ℕ → ℕ → ℕ → StepRecord = λ (n c i d : ℕ). record { kind = k; numbers_at = n; number_count = c; list_at = i; list_count = d } in
        record {
          ring = e-ring ∙ h.ring ∙ sym (ring_more ls x);
          shape = e-shape ∙ h.shape ∙ sym (shape_more ls x);
          cells = λ m j lt. ap (λ (cs : List ℤ). get_or cs (base m + j) (pos 0)) e-cells ∙ h.cells m j lt ∙ sym (value_more ls x m j two refl);
          steps = ap (λ (n : ℕ). take n q.steps) e-taken ∙ ap (take (p.taken + 1)) e-steps ∙ take_more_set p.steps p.taken _ room
              ∙ ap (λ (xs : List StepRecord). xs ++ rec p.used nc p.listed lc ∷ []) h.steps
              ∙ ap (λ (z : ℕ). records_from 0 0 (steps_in ls) ++ rec p.used z p.listed lc ∷ []) a.number_count_is
              ∙ ap (λ (z : ℕ). records_from 0 0 (steps_in ls) ++ rec p.used (length ns) p.listed z ∷ []) a.list_count_is
              ∙ ap (λ (z : ℕ). records_from 0 0 (steps_in ls) ++ rec z (length ns) p.listed (length is) ∷ []) (sym (zero-add _ ∙ used_is))
              ∙ ap (λ (z : ℕ). records_from 0 0 (steps_in ls) ++ rec (0 + length (numbers_in ls)) (length ns) z (length is) ∷ []) (sym (zero-add _ ∙ listed_is))
              ∙ sym (records_more 0 0 ls given) ∙ ap (records_from 0 0) (sym (steps_more ls x));
          numbers = ap (λ (n : ℕ). take n q.numbers) e-used ∙ ap (take (p.used + nc)) e-numbers ∙ a.numbers b ∙ ap (λ (xs : List ℤ). xs ++ ns) h.numbers ∙ sym (numbers_more ls x);
          indices = ap (λ (n : ℕ). take n q.indices) e-listed ∙ ap (take (p.listed + lc)) e-indices ∙ a.indices c ∙ ap (λ (xs : List ℕ). xs ++ is) h.indices ∙ sym (indices_more ls x);
        }

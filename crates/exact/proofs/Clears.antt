-- Memories that hold their shapes pass the tests of a run and of a pairing. Assumes nothing.
use Rattle.std.proofs.Common.{◌≡◌, ℕ, ◌≤◌, Bool, true, false, not, nat_lt, ◌==◌, ◌||◌, List, [], ◌∷◌, ◌++◌, refl, ap, ◌∙◌, arith, eq-eqb, length, ap₂}
use Rattle.std.proofs.lemmas.Bool.{le-ltb, ne_eqb}
use Rattle.shape.specs.Shapes.{no_lanes, too_large, misfit, Fits}
use Rattle.shape.specs.Refusals.{first_of}
use Rattle.shape.specs.declared.operand.TableShape.{TableShape}
use Rattle.shape.proofs.Answered.{first_after}
use Rattle.shape.proofs.Verdicts.{numbered}
use Rattle.state.specs.Memory.{parts_tests, vector_of, Holds, shown, lengths}
use Rattle.state.specs.declared.parts.Parts.{Parts}
use Rattle.forward.specs.Tests.{memory_tests}
use Rattle.backward.specs.Tests.{weights_tests}
use Rattle.sweep.specs.Scripts.{run_tests}
use Rattle.pairing.specs.Pairings.{pairing_tests}
use Rattle.exact.specs.Tasks.{task_tests, over_limits, Workable}
use Rattle.exact.specs.declared.task.Task.{Task}

all_false : (a b c d e : Bool) → a ≡ false → b ≡ false → c ≡ false → d ≡ false → e ≡ false → first_of ((1, a) ∷ (2, b) ∷ (3, c || (d || e)) ∷ []) ≡ 0
all_false a b c d e p q r s t = rw (p, q, r, s, t) refl

some_lanes : (t : TableShape) (len : ℕ) → Fits t len → no_lanes t ≡ false
some_lanes t len h = ne_eqb t.lanes 0 (λ e. absurd (let some = h.some in omega arith))

small : (t : TableShape) (len : ℕ) → Fits t len → too_large t ≡ false
small t len h = rw (le-ltb 65536 t.rows h.few_rows, le-ltb 1024 t.cols h.few_cols, le-ltb 4096 t.lanes h.few_lanes) refl

fitted : (t : TableShape) (len : ℕ) → Fits t len → misfit t len ≡ false
fitted t len h = ap not (eq-eqb _ _ h.size)

parts_clear : (t : TableShape) (l : Parts ℕ) → Holds t l → first_of (parts_tests t l) ≡ 0
parts_clear t l h =
    all_false _ _ _ _ _ (some_lanes t l.table h.table) (small t l.table h.table) (fitted t l.table h.table)
    (fitted (vector_of t).of l.first h.first) (fitted (vector_of t).of l.second h.second)

-- one more test after those that are passed
last_clear : (xs : List (ℕ × Bool)) (n : ℕ) (b : Bool) → numbered xs ≡ true → first_of xs ≡ 0 → b ≡ false → first_of (xs ++ ((n, b) ∷ [])) ≡ 0
last_clear xs n b k e f = first_after xs ((n, b) ∷ []) k e ∙ ap (λ z. first_of ((n, z) ∷ [])) f

all_clear : (xs ys : List (ℕ × Bool)) → numbered xs ≡ true → first_of xs ≡ 0 → first_of ys ≡ 0 → first_of (xs ++ ys) ≡ 0
all_clear xs ys k e f = first_after xs ys k e ∙ f

memory_clear : (t : TableShape) (l : Parts ℕ) (len : ℕ) → Holds t l → 8 ≤ len → first_of (memory_tests t l len) ≡ 0
memory_clear t l len h w = last_clear (parts_tests t l) 3 (nat_lt len 8) refl (parts_clear t l h) (le-ltb len 8 w)

weights_clear : (t : TableShape) (l : Parts ℕ) (wl len : ℕ) → Holds t l → Fits (vector_of t).of wl → 8 ≤ len → first_of (weights_tests t l wl len) ≡ 0
weights_clear t l wl len h s w =
    last_clear (memory_tests t l len) 3 (misfit (vector_of t).of wl) refl (memory_clear t l len h w) (fitted (vector_of t).of wl s)

pub run_clear : (t : TableShape) (count : ℕ) (s w : Parts ℕ) (wl len al : ℕ) → Holds t s → Holds t w → Fits (vector_of t).of wl → 8 ≤ len → al ≡ count
    → first_of (run_tests t count s w wl len al) ≡ 0
run_clear t count s w wl len al hs hw hv work e =
    all_clear (memory_tests t s len) (weights_tests t w wl len ++ ((3, not (al == count)) ∷ [])) refl (memory_clear t s len hs work)
    (last_clear (weights_tests t w wl len) 3 (not (al == count)) refl (weights_clear t w wl len hw hv work) (ap not (eq-eqb al count e)))

pub pairing_clear : (t : TableShape) (s w : Parts ℕ) (sl : ℕ) → Holds t s → Holds t w → sl ≡ t.lanes → first_of (pairing_tests t s w sl) ≡ 0
pairing_clear t s w sl hs hw e =
    all_clear (parts_tests t s) (parts_tests t w ++ ((3, not (sl == t.lanes)) ∷ [])) refl (parts_clear t s hs)
    (last_clear (parts_tests t w) 3 (not (sl == t.lanes)) refl (parts_clear t w hw) (ap not (eq-eqb sl t.lanes e)))

pub task_clear : (x : Task) (ks ps qs : ℕ) → Workable x ks ps qs → first_of (task_tests x ks ps qs) ≡ 0
task_clear x ks ps qs h =
    let sizes = three (not (ks == length x.script.steps.now)) (not (ps == x.shape.lanes)) (not (qs == x.shape.lanes))
    (ap not (eq-eqb _ _ h.answers)) (ap not (eq-eqb _ _ h.after)) (ap not (eq-eqb _ _ h.before)) in
    let limits = three (nat_lt 1024 (length x.state.table.now)) (nat_lt 1024 (length x.state.first.now)) (nat_lt 1024 (length x.script.numbers.now))
    (le-ltb 1024 _ h.table) (le-ltb 1024 _ h.vector) (le-ltb 1024 _ h.numbers) in
    let a = not (ks == length x.script.steps.now) || (not (ps == x.shape.lanes) || not (qs == x.shape.lanes)) in
    all_clear (parts_tests x.shape (lengths (shown x.state))) (parts_tests x.shape (lengths (shown x.weights)) ++ ((3, a) ∷ (14, over_limits x) ∷ [])) refl (parts_clear x.shape _ h.state)
    (all_clear (parts_tests x.shape (lengths (shown x.weights))) ((3, a) ∷ (14, over_limits x) ∷ []) refl (parts_clear x.shape _ h.weights)
    (ap₂ (λ p q. first_of ((3, p) ∷ (14, q) ∷ [])) sizes limits))
  where
    three : (a b c : Bool) → a ≡ false → b ≡ false → c ≡ false → a || (b || c) ≡ false
    three a b c e f g = rw (e, f, g) refl

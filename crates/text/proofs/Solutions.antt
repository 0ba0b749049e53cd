-- What is written for a task that is solved. Assumes nothing.
use Rattle.std.proofs.Common.{◌≡◌, ℕ, zero, suc, ◌*◌, ◌^◌, ◌<◌, ◌≤◌, ℤ, List, [], ◌∷◌, ◌++◌, length, map, get_or, codes, refl, ap, ap₂, ◌∙◌, arith}
use Rattle.std.proofs.lemmas.List.{length-map}
use Rattle.scalar.specs.Ops.{Ops}
use Rattle.scalar.specs.Modular.{Below, wraps, residues}
use Rattle.exact.specs.Values.{wrap_value, residue_value}
use Rattle.shape.specs.declared.operand.TableShape.{TableShape}
use Rattle.steps.specs.States.{Lane, Alike}
use Rattle.steps.specs.Steps.{Step, fault}
use Rattle.steps.specs.Runs.{run, carry}
use Rattle.steps.proofs.Alikes.{run_alike, carry_alike, pairing_alike}
use Rattle.state.specs.Memory.{shown, lane_of}
use Rattle.sweep.specs.Sweeps.{steps_of}
use Rattle.exact.specs.Tasks.{paired_after, paired_before, Solved}
use Rattle.exact.specs.declared.task.Task.{Task}
use Rattle.reader.specs.declared.program.Ring.{Ring}
use Rattle.reader.specs.declared.program.Ring.TheVariants.{Wrap, Residue}
use Rattle.text.specs.Lines.{Written, line, step_lines, lane_lines}
use Rattle.text.specs.Answers.{run_lines}
use Rattle.text.specs.Solutions.{SolvedIn, task_lines}
use Rattle.text.proofs.Puts.{written_more, written_as}
use Rattle.text.proofs.Rooms.{steps_fit, lanes_fit, no_rows}

pub lanes_same : (n : ℕ) (f g f' g' : ℕ → ℕ) → ((b : ℕ) → b < n → f b ≡ f' b) → ((b : ℕ) → b < n → g b ≡ g' b) → lane_lines n f g ≡ lane_lines n f' g'
lanes_same zero f g f' g' p q = refl
lanes_same (suc n) f g f' g' p q =
    ap₂ (λ s t. s ++ t) (lanes_same n f g f' g' (λ b l. p b (omega arith)) (λ b l. q b (omega arith)))
    (ap₂ (λ x y. line (codes "lane") (n ∷ x ∷ y ∷ [])) (p n (omega arith)) (q n (omega arith)))

-- lanes alike at each place are written the same
pub run_same : {M : Type 0} (o : Ops M) (number : M → ℕ) (t : TableShape) (xs : List (Step M)) (s w s' w' : ℕ → Lane M)
    → ((b : ℕ) → b < t.lanes → Alike t.rows t.cols (s b) (s' b)) → ((b : ℕ) → b < t.lanes → Alike t.rows t.cols (w b) (w' b))
    → run_lines o number t xs s w ≡ run_lines o number t xs s' w'
run_same o number t xs s w s' w' p q =
    let r = t.rows in
    let c = t.cols in
    ap (λ z. step_lines 0 (map (fault r c) xs) ++ z)
    (lanes_same t.lanes _ _ _ _
    (λ b l. ap number (pairing_alike o r c (run o r c xs (s b)) (w b) (run o r c xs (s' b)) (w' b) (run_alike o r c xs (s b) (s' b) (p b l)) (q b l)))
    (λ b l. ap number (pairing_alike o r c (s b) (carry o r c xs (w b)) (s' b) (carry o r c xs (w' b)) (p b l) (carry_alike o r c xs (w b) (w' b) (q b l)))))

module _ {m : ℕ} (o : Ops (Below m)) (value : ℤ → Below m) (x : Task) (ks ps qs : List ℕ) (h : Solved o value (λ n. n.number) x ks ps qs) where
  written : (out mid new : List ℕ) (here there : ℕ) → length ps ≡ x.shape.lanes
      → Written out mid 0 (step_lines 0 ks) here → Written mid new here (lane_lines (length ps) (λ b. get_or ps b 0) (λ b. get_or qs b 0)) there
      → Written out new 0 (run_lines o (λ n. n.number) x.shape (steps_of value x.script) (λ b. lane_of value o x.shape b (shown x.state)) (λ b. lane_of value o x.shape b (shown x.weights))) there
  written out mid new here there e p q =
      written_as out new _ _ 0 there
      (ap₂ (λ s t. s ++ t) (ap (step_lines 0) h.answers)
      (ap (λ n. lane_lines n (λ b. get_or ps b 0) (λ b. get_or qs b 0)) e ∙ lanes_same x.shape.lanes _ _ _ _ h.after h.before))
      (written_more out mid new (step_lines 0 ks) _ 0 here there (omega arith) p q)

  steps_room : length ks ≤ 64 → length (step_lines 0 ks) ≤ 704
  steps_room few =
      let t = x.shape in
      let xs = steps_of value x.script in
      let long : length (map (fault t.rows t.cols) xs) ≡ length xs = length-map xs (fault t.rows t.cols) in
      let e = ap length h.answers in
      let fit = steps_fit t.rows t.cols 0 xs (omega arith) in
      let same = ap (λ ns. length (step_lines 0 ns)) h.answers in
      omega arith

  lanes_room : m ≤ 2 ^ 64 → o.zero.number ≡ 0 → x.shape.rows * x.shape.lanes ≤ 1024 → x.shape.lanes ≤ 4096
      → length (lane_lines x.shape.lanes (λ b. get_or ps b 0) (λ b. get_or qs b 0)) ≤ 57344
  lanes_room big z few many =
      let t = x.shape in
      let xs = steps_of value x.script in
      let state = λ (b : ℕ). lane_of value o t b (shown x.state) in
      let weights = λ (b : ℕ). lane_of value o t b (shown x.weights) in
      let end = λ (b : ℕ). paired_after o t.rows t.cols xs (state b) (weights b) in
      let beginning = λ (b : ℕ). paired_before o t.rows t.cols xs (state b) (weights b) in
      lanes_fit t.rows t.lanes (λ b. get_or ps b 0) (λ b. get_or qs b 0) few many
      (λ b l. small big (end b) _ (h.after b l)) (λ b l. small big (beginning b) _ (h.before b l))
      (λ e b l. h.after b l ∙ ap (λ n. n.number) (no_rows o t.rows t.cols _ _ e) ∙ z)
      (λ e b l. h.before b l ∙ ap (λ n. n.number) (no_rows o t.rows t.cols _ _ e) ∙ z)
    where
      small : m ≤ 2 ^ 64 → (n : Below m) (k : ℕ) → k ≡ n.number → k < 2 ^ 64
      small big n k e = let l = n.less in omega arith

-- ---- in either ring

pub written_in : (ring : Ring) (x : Task) (ks ps qs : List ℕ) → SolvedIn ring x ks ps qs → (out mid new : List ℕ) (here there : ℕ) → length ps ≡ x.shape.lanes
    → Written out mid 0 (step_lines 0 ks) here → Written mid new here (lane_lines (length ps) (λ b. get_or ps b 0) (λ b. get_or qs b 0)) there
    → Written out new 0 (task_lines ring x) there
written_in Wrap x ks ps qs h = written wraps wrap_value x ks ps qs h
written_in Residue x ks ps qs h = written residues residue_value x ks ps qs h

pub steps_room_in : (ring : Ring) (x : Task) (ks ps qs : List ℕ) → SolvedIn ring x ks ps qs → length ks ≤ 64 → length (step_lines 0 ks) ≤ 704
steps_room_in Wrap x ks ps qs h = steps_room wraps wrap_value x ks ps qs h
steps_room_in Residue x ks ps qs h = steps_room residues residue_value x ks ps qs h

pub lanes_room_in : (ring : Ring) (x : Task) (ks ps qs : List ℕ) → SolvedIn ring x ks ps qs → x.shape.rows * x.shape.lanes ≤ 1024 → x.shape.lanes ≤ 4096
    → length (lane_lines x.shape.lanes (λ b. get_or ps b 0) (λ b. get_or qs b 0)) ≤ 57344
lanes_room_in Wrap x ks ps qs h = lanes_room wraps wrap_value x ks ps qs h (omega arith) refl
lanes_room_in Residue x ks ps qs h = lanes_room residues residue_value x ks ps qs h (omega arith) refl

-- What is written has room: 64 steps and their lanes take at most 58,048 bytes. Assumes nothing.
use Rattle.std.proofs.Common.{◌≡◌, ℕ, zero, suc, ◌+◌, ◌*◌, ◌^◌, ◌<◌, ◌≤◌, Bool, true, ◌&&◌, nat_le, List, [], ◌∷◌, length, map, codes, decimal, refl, ap, ◌∙◌, arith, length-append}
use Rattle.std.proofs.lemmas.Bool.{and_parts, cond_both, leb-true}
use Rattle.std.proofs.lemmas.Fmt.{length-decimal-le}
use Rattle.scalar.specs.Ops.{Ops}
use Rattle.shape.specs.Refusals.{first_of}
use Rattle.steps.specs.States.{Lane, columns_from, pairing}
use Rattle.steps.specs.Steps.{Step, fault, step_tests}
use Rattle.text.specs.Lines.{tabbed, line, fault_line, step_lines, lane_lines}
use Rattle.text.proofs.Puts.{line_room}

-- ---- lines

two_numbers : (w : List ℕ) (a b : ℕ) → length (line w (a ∷ b ∷ [])) ≡ length w + (3 + length (decimal a) + length (decimal b))
two_numbers w a b =
    let l = line_room w (a ∷ b ∷ []) in
    let x = length-append (9 ∷ decimal a) (tabbed (b ∷ [])) in
    let y = length-append (9 ∷ decimal b) (tabbed []) in
    omega arith

three_numbers : (w : List ℕ) (a b c : ℕ) → length (line w (a ∷ b ∷ c ∷ [])) ≡ length w + (4 + length (decimal a) + length (decimal b) + length (decimal c))
three_numbers w a b c =
    let l = line_room w (a ∷ b ∷ c ∷ []) in
    let x = length-append (9 ∷ decimal a) (tabbed (b ∷ c ∷ [])) in
    let y = length-append (9 ∷ decimal b) (tabbed (c ∷ [])) in
    let z = length-append (9 ∷ decimal c) (tabbed []) in
    omega arith

pub fault_room : (l n : ℕ) → l < 2 ^ 64 → n < 256 → length (fault_line l n) ≤ 100
fault_room l n h k =
    let t = two_numbers (codes "fault") l n in
    let a = length-decimal-le 20 l (omega arith) (omega arith) h in
    let b = length-decimal-le 3 n (omega arith) (omega arith) (omega arith) in
    omega arith

-- ---- steps

-- no number of a test is above k
abbrev at_most : ℕ → List (ℕ × Bool) → Bool
at_most k [] = true
at_most k (t ∷ ts) = nat_le t.0 k && at_most k ts

first_at_most : (k : ℕ) (ts : List (ℕ × Bool)) → at_most k ts ≡ true → first_of ts ≤ k
first_at_most k [] e = omega arith
first_at_most k (t ∷ ts) e =
    let p = and_parts (nat_le t.0 k) (at_most k ts) e in
    cond_both t.1 t.0 (first_of ts) (λ n. n ≤ k) (λ _. leb-true t.0 k p.0) (λ _. first_at_most k ts p.1)

module _ {M : Type 0} (r c : ℕ) where
  fault_small : (x : Step M) → fault r c x ≤ 10
  fault_small x = first_at_most 10 (step_tests r c x) refl

  pub steps_fit : (i : ℕ) (xs : List (Step M)) → i + length xs ≤ 100 → length (step_lines i (map (fault r c) xs)) ≤ 11 * length xs
  steps_fit i [] h = omega arith
  steps_fit i (x ∷ xs) h =
      let n = fault r c x in
      let small = fault_small x in
      let rest = steps_fit (i + 1) xs (omega arith) in
      let t = two_numbers (codes "step") i n in
      let l = length-append (line (codes "step") (i ∷ n ∷ [])) (step_lines (i + 1) (map (fault r c) xs)) in
      let a = length-decimal-le 2 i (omega arith) (omega arith) (omega arith) in
      let b = length-decimal-le 2 n (omega arith) (omega arith) (omega arith) in
      omega arith

-- ---- lanes

lanes_by : (n k : ℕ) (f g : ℕ → ℕ) → ((b : ℕ) → b < n → length (line (codes "lane") (b ∷ f b ∷ g b ∷ [])) ≤ k) → length (lane_lines n f g) ≤ n * k
lanes_by zero k f g h = omega arith
lanes_by (suc n) k f g h =
    let rest = lanes_by n k f g (λ b l. h b (omega arith)) in
    let last = h n (omega arith) in
    let l = length-append (lane_lines n f g) (line (codes "lane") (n ∷ f n ∷ g n ∷ [])) in
    omega arith

wide_lane : (b x y : ℕ) → b < 1024 → x < 2 ^ 64 → y < 2 ^ 64 → length (line (codes "lane") (b ∷ x ∷ y ∷ [])) ≤ 52
wide_lane b x y h p q =
    let t = three_numbers (codes "lane") b x y in
    let k = length-decimal-le 4 b (omega arith) (omega arith) (omega arith) in
    let m = length-decimal-le 20 x (omega arith) (omega arith) p in
    let n = length-decimal-le 20 y (omega arith) (omega arith) q in
    omega arith

zero_lane : (b x y : ℕ) → b < 4096 → x ≡ 0 → y ≡ 0 → length (line (codes "lane") (b ∷ x ∷ y ∷ [])) ≤ 14
zero_lane b x y h p q =
    let t = three_numbers (codes "lane") b x y in
    let k = length-decimal-le 4 b (omega arith) (omega arith) (omega arith) in
    let m = length-decimal-le 1 x (omega arith) (omega arith) (omega arith) in
    let n = length-decimal-le 1 y (omega arith) (omega arith) (omega arith) in
    omega arith

-- at most 1,024 lanes of any numbers, or 4,096 of zeros where there are no rows
pub lanes_fit : (r n : ℕ) (f g : ℕ → ℕ) → r * n ≤ 1024 → n ≤ 4096
    → ((b : ℕ) → b < n → f b < 2 ^ 64) → ((b : ℕ) → b < n → g b < 2 ^ 64)
    → (r ≡ 0 → (b : ℕ) → b < n → f b ≡ 0) → (r ≡ 0 → (b : ℕ) → b < n → g b ≡ 0)
    → length (lane_lines n f g) ≤ 57344
lanes_fit zero n f g few many p q y z =
    let all = lanes_by n 14 f g (λ b l. zero_lane b (f b) (g b) (omega arith) (y refl b l) (z refl b l)) in
    omega arith
lanes_fit (suc r) n f g few many p q y z =
    let fits : n ≤ 1024 = few_lanes r n few in
    let all = lanes_by n 52 f g (λ b l. wide_lane b (f b) (g b) (omega arith) (p b l) (q b l)) in
    omega arith
  where
    few_lanes : (r n : ℕ) → suc r * n ≤ 1024 → n ≤ 1024
    few_lanes r n h = omega arith

-- ---- a pairing of no rows is zero

module _ {M : Type 0} (o : Ops M) where
  no_columns : (f : ℕ → ℕ → M) (c : ℕ) → columns_from o 0 o.zero f c ≡ o.zero
  no_columns f zero = refl
  no_columns f (suc c) = no_columns f c

  pub no_rows : (r c : ℕ) (s w : Lane M) → r ≡ 0 → pairing o r c s w ≡ o.zero
  no_rows r c s w e =
      ap (λ z. pairing o z c s w) e ∙ no_columns (λ j i. o.times (s.table j i) (w.table j i)) c

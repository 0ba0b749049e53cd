-- One piece written after another. Assumes nothing.
use Rattle.std.proofs.Common.{◌≡◌, ℕ, zero, suc, ◌+◌, ◌-◌, ◌/◌, ◌%◌, ◌^◌, ◌<◌, ◌≤◌, List, [], ◌∷◌, ◌++◌, length, get_or, take, drop, set, codes, decimal, sym, refl, ap, ap₂, ◌∙◌, subst, append_assoc, append-nil, add-zero, add_assoc, zero-add, add-one, arith, length-append}
use Rattle.std.proofs.Math.Seq.{paste}
use Rattle.std.proofs.lemmas.List.{take_more, length-take-le, drop_more, take-append-drop}
use Rattle.std.proofs.lemmas.List.Edits.{paste_none, paste_more, paste-paste, paste_all}
use Rattle.std.proofs.lemmas.Fmt.{decimal_digit, decimal_step}
use Rattle.text.specs.Lines.{Written, tabbed, line, step_lines, lane_lines}

-- ---- pieces

as_paste : (old new s : List ℕ) (at here : ℕ) → Written old new at s here → new ≡ paste old at s (length s)
as_paste old new s at here w = w.bytes ∙ sym (paste_all old at s (length s) refl)

from_paste : (old new s : List ℕ) (at here : ℕ) → here ≡ at + length s → new ≡ paste old at s (length s) → Written old new at s here
from_paste old new s at here e h = record { end = e; bytes = h ∙ paste_all old at s (length s) refl }

pub written_none : (old : List ℕ) (at : ℕ) → Written old old at [] at
written_none old at = from_paste old old [] at at (sym (add-zero at)) (paste_none old at [])

pub written_more : (old mid new s t : List ℕ) (at here there : ℕ) → at ≤ length old → Written old mid at s here → Written mid new here t there → Written old new at (s ++ t) there
written_more old mid new s t at here there le p q =
    let l = length-append s t in
    from_paste old new (s ++ t) at there
    (q.end ∙ ap (λ n. n + length t) p.end ∙ add_assoc at (length s) (length t) ∙ ap (λ n. at + n) (sym l))
    (as_paste mid new t here there q ∙ ap₂ (λ d n. paste d n t (length t)) (as_paste old mid s at here p) p.end
    ∙ paste-paste old at s t (length s) (length t) refl refl le ∙ ap (paste old at (s ++ t)) (sym l))

pub written_byte : (old : List ℕ) (at v : ℕ) → at < length old → Written old (set old at v) at (v ∷ []) (at + 1)
written_byte old at v h =
    let k : at + 0 < length old = omega arith in
    let z : 0 < length (v ∷ []) = omega arith in
    let n : at + 0 ≡ at = omega arith in
    from_paste old (set old at v) (v ∷ []) at (at + 1) refl
    (ap (λ d. set d at v) (paste_none old at (v ∷ [])) ∙ ap (λ i. set (paste old at (v ∷ []) 0) i v) (sym n) ∙ paste_more old at (v ∷ []) 0 0 k z)

pub written_as : (old new s t : List ℕ) (at here : ℕ) → s ≡ t → Written old new at s here → Written old new at t here
written_as old new s t at here e w = subst (λ x. Written old new at x here) e w

-- ---- the digits of a number

pub length_digit : (n : ℕ) → n < 10 → length (decimal n) ≡ 1
length_digit n h = ap length (decimal_digit n h)

pub length_step : (n : ℕ) → 10 ≤ n → n < 2 ^ 64 → length (decimal n) ≡ length (decimal (n / 10)) + 1
length_step n h f = ap length (decimal_step n h f) ∙ length-append (decimal (n / 10)) ((48 + n % 10) ∷ [])

pub written_digit : (old : List ℕ) (at n : ℕ) → n < 10 → at < length old → Written old (set old at (48 + n)) at (decimal n) (at + 1)
written_digit old at n h k = written_as old _ _ _ at (at + 1) (sym (decimal_digit n h)) (written_byte old at (48 + n) k)

pub written_step : (old mid : List ℕ) (at here n : ℕ) → 10 ≤ n → n < 2 ^ 64 → at ≤ length old → here < length mid → Written old mid at (decimal (n / 10)) here
    → Written old (set mid here (48 + n % 10)) at (decimal n) (here + 1)
written_step old mid at here n h f le k w =
    written_as old _ _ _ at (here + 1) (sym (decimal_step n h f)) (written_more old mid _ (decimal (n / 10)) _ at here (here + 1) le w (written_byte mid here (48 + n % 10) k))

-- ---- the numbers of a line

tabbed-append : (ms ns : List ℕ) → tabbed (ms ++ ns) ≡ tabbed ms ++ tabbed ns
tabbed-append [] ns = refl
tabbed-append (m ∷ ms) ns = ap (λ t. (9 ∷ decimal m) ++ t) (tabbed-append ms ns) ∙ sym (append_assoc (9 ∷ decimal m) (tabbed ms) (tabbed ns))

tabbed_more : (ns : List ℕ) (i : ℕ) → i < length ns → tabbed (take (i + 1) ns) ≡ tabbed (take i ns) ++ (9 ∷ decimal (get_or ns i 0))
tabbed_more ns i h =
    ap tabbed (take_more ns i 0 h) ∙ tabbed-append (take i ns) (get_or ns i 0 ∷ []) ∙ ap (λ t. tabbed (take i ns) ++ t) (append-nil (9 ∷ decimal (get_or ns i 0)))

-- the room that the numbers take
pub tabbed_room : (ns : List ℕ) (i : ℕ) → i < length ns → length (tabbed ns) ≡ length (tabbed (take i ns)) + (1 + length (decimal (get_or ns i 0)) + length (tabbed (drop (i + 1) ns)))
tabbed_room ns i h =
    let a : length (tabbed (take i ns) ++ tabbed (drop i ns)) ≡ length (tabbed ns) = ap length (sym (tabbed-append (take i ns) (drop i ns)) ∙ ap tabbed (take-append-drop i ns)) in
    let b : length (tabbed (drop i ns)) ≡ length ((9 ∷ decimal (get_or ns i 0)) ++ tabbed (drop (i + 1) ns)) = ap (λ t. length (tabbed t)) (drop_more ns i 0 h) in
    let c = length-append (9 ∷ decimal (get_or ns i 0)) (tabbed (drop (i + 1) ns)) in
    let d = length-append (tabbed (take i ns)) (tabbed (drop i ns)) in
    omega arith

pub line_room : (w ns : List ℕ) → length (line w ns) ≡ length w + length (tabbed ns) + 1
line_room w ns = let a = length-append (w ++ tabbed ns) (10 ∷ []) in let b = length-append w (tabbed ns) in omega arith

-- one number more: the tab, then the digits
pub written_number : (old mid new : List ℕ) (at here there : ℕ) (ns : List ℕ) (i : ℕ) → i < length ns → at ≤ length old → here < length mid
    → Written old mid at (tabbed (take i ns)) here → Written (set mid here 9) new (here + 1) (decimal (get_or ns i 0)) there
    → Written old new at (tabbed (take (i + 1) ns)) there
written_number old mid new at here there ns i h le lt p q =
    let d = decimal (get_or ns i 0) in
    let le' : here ≤ length mid = omega arith in
    let both : Written mid new here (9 ∷ d) there = written_more mid (set mid here 9) new (9 ∷ []) d here (here + 1) there le' (written_byte mid here 9 lt) q in
    written_as old new _ _ at there (sym (tabbed_more ns i h)) (written_more old mid new (tabbed (take i ns)) (9 ∷ d) at here there le p both)

-- the whole line
pub written_line : (old mid out w ns : List ℕ) (at here there : ℕ) → at ≤ length old → here ≤ length mid → there < length out
    → Written old mid at w here → Written mid out here (tabbed ns) there → Written old (set out there 10) at (line w ns) (there + 1)
written_line old mid out w ns at here there le le' lt p q =
    written_more old out (set out there 10) (w ++ tabbed ns) (10 ∷ []) at there (there + 1) le
    (written_more old mid out w (tabbed ns) at here there le p q) (written_byte out there 10 lt)

-- ---- the lines of the steps

steps-append : (i : ℕ) (ms ns : List ℕ) → step_lines i (ms ++ ns) ≡ step_lines i ms ++ step_lines (i + length ms) ns
steps-append i [] ns = ap (λ j. step_lines j ns) (sym (add-zero i))
steps-append i (m ∷ ms) ns =
    let e : i + 1 + length ms ≡ i + length (m ∷ ms) = omega arith in
    ap (λ t. line (codes "step") (i ∷ m ∷ []) ++ t) (steps-append (i + 1) ms ns ∙ ap (λ j. step_lines (i + 1) ms ++ step_lines j ns) e)
    ∙ sym (append_assoc (line (codes "step") (i ∷ m ∷ [])) (step_lines (i + 1) ms) (step_lines (i + length (m ∷ ms)) ns))

pub steps_more : (ns : List ℕ) (i : ℕ) → i < length ns → step_lines 0 (take (i + 1) ns) ≡ step_lines 0 (take i ns) ++ line (codes "step") (i ∷ get_or ns i 0 ∷ [])
steps_more ns i h =
    let le : i ≤ length ns = omega arith in
    let e : 0 + length (take i ns) ≡ i = zero-add _ ∙ length-take-le i ns le in
    ap (step_lines 0) (take_more ns i 0 h) ∙ steps-append 0 (take i ns) (get_or ns i 0 ∷ [])
    ∙ ap (λ j. step_lines 0 (take i ns) ++ step_lines j (get_or ns i 0 ∷ [])) e
    ∙ ap (λ t. step_lines 0 (take i ns) ++ t) (append-nil _)

pub steps_room : (ns : List ℕ) (i : ℕ) → i < length ns → length (step_lines 0 (take i ns)) + length (line (codes "step") (i ∷ get_or ns i 0 ∷ [])) ≤ length (step_lines 0 ns)
steps_room ns i h =
    let next = line (codes "step") (i ∷ get_or ns i 0 ∷ []) in
    let a = length-append (step_lines 0 (take i ns)) next in
    let b : length (step_lines 0 (take (i + 1) ns)) ≡ length (step_lines 0 (take i ns) ++ next) = ap length (steps_more ns i h) in
    let rest = step_lines (0 + length (take (i + 1) ns)) (drop (i + 1) ns) in
    let c : length (step_lines 0 ns) ≡ length (step_lines 0 (take (i + 1) ns) ++ rest) =
    ap (λ t. length (step_lines 0 t)) (sym (take-append-drop (i + 1) ns)) ∙ ap length (steps-append 0 (take (i + 1) ns) (drop (i + 1) ns)) in
    let d = length-append (step_lines 0 (take (i + 1) ns)) rest in
    omega arith

-- ---- the lines of the lanes

pub lanes_more : (n : ℕ) (f g : ℕ → ℕ) → lane_lines (n + 1) f g ≡ lane_lines n f g ++ line (codes "lane") (n ∷ f n ∷ g n ∷ [])
lanes_more n f g = ap (λ m. lane_lines m f g) (add-one n)

-- the first lanes take no more room than all of them
lanes_front : (n m : ℕ) (f g : ℕ → ℕ) → length (lane_lines n f g) ≤ length (lane_lines (m + n) f g)
lanes_front n zero f g = let e = ap (λ k. length (lane_lines k f g)) (zero-add n) in omega arith
lanes_front n (suc m) f g =
    let less = lanes_front n m f g in
    let e : suc m + n ≡ suc (m + n) = omega arith in
    let p = ap (λ k. length (lane_lines k f g)) e in
    let q = length-append (lane_lines (m + n) f g) (line (codes "lane") ((m + n) ∷ f (m + n) ∷ g (m + n) ∷ [])) in
    omega arith

pub lanes_room : (i n : ℕ) (f g : ℕ → ℕ) → i < n → length (lane_lines i f g) + length (line (codes "lane") (i ∷ f i ∷ g i ∷ [])) ≤ length (lane_lines n f g)
lanes_room i n f g h =
    let a = ap length (lanes_more i f g) in
    let b = length-append (lane_lines i f g) (line (codes "lane") (i ∷ f i ∷ g i ∷ [])) in
    let e : n - (i + 1) + (i + 1) ≡ n = omega arith in
    let c = lanes_front (i + 1) (n - (i + 1)) f g in
    let d = ap (λ k. length (lane_lines k f g)) e in
    omega arith

-- One field more.
use Rattle.std.proofs.Common.{◌≡◌, ℕ, zero, suc, ◌+◌, ◌-◌, ◌<◌, ◌≤◌, true, false, cond, eqb, List, [], ◌∷◌, ◌++◌, length, get_or, take, drop, set, Some, None, Option, sym, refl, ap, ◌∙◌, subst, append_assoc, append-nil, arith}
use lib.Seq.{paste}
use Rattle.std.proofs.lemmas.List.{length_push, take-append-le, get_or_push, take_all, take_rest}
use Rattle.std.proofs.lemmas.List.Edits.{paste_none, paste_more}
use Rattle.std.specs.List.{between}
use Rattle.lex.specs.Lines.{grown, fields, more, before}
use Rattle.lex.specs.Numbers.{all, both}
use Rattle.lex.specs.Fields.{FieldsRead}
use Rattle.lex.proofs.Parts.{fields_cut, after_tab}

abbrev ahead : {X : Type 0} → List X → Option (List X) → Option (List X)
ahead xs None = None
ahead xs (Some ys) = Some (xs ++ ys)

ahead_both : {X : Type 0} (xs : List X) (x : X) (o : Option (List X)) → ahead xs (both (Some x) o) ≡ ahead (xs ++ x ∷ []) o
ahead_both xs x None = refl
ahead_both xs x (Some ys) = ap Some (sym (append_assoc xs (x ∷ []) ys))

pub record ReadSoFar {X : Type 0} (rule : List ℕ → Option X) (fs : List (List ℕ)) (most : ℕ) (old new : List X) (at n : ℕ) (left : List ℕ) : Type 0 where
  pub got : List X
  pub are : all rule (take most fs) ≡ ahead got (all rule (take (most - n) (more left)))
  pub many : n ≡ length got
  pub others : drop (most - n) (more left) ≡ drop most fs
  pub stored : at + n ≤ length old → new ≡ paste old at got n

module _ {X : Type 0} (rule : List ℕ → Option X) (fs : List (List ℕ)) (most : ℕ) (old : List X) (at : ℕ) where
  ahead_nil : (o : Option (List X)) → o ≡ ahead [] o
  ahead_nil None = refl
  ahead_nil (Some ys) = refl

  pub start : (left : List ℕ) → fs ≡ more left → ReadSoFar rule fs most old old at 0 left
  start left e =
      let z : most - 0 ≡ most = omega arith in
      record {
        got = [];
        are = ap (λ (gs : List (List ℕ)). all rule (take most gs)) e ∙ ahead_nil _ ∙ ap (λ (m : ℕ). ahead [] (all rule (take m (more left)))) (sym z);
        many = refl;
        others = ap (λ (m : ℕ). drop m (more left)) z ∙ ap (drop most) (sym e);
        stored = λ h. paste_none old at [];
      }

  -- the field at the front of what is left
  front : (n : ℕ) (left t : List ℕ) → n < most → left ≡ 9 ∷ t → all rule (take (most - n) (more left)) ≡ both (rule (take (before 9 t) t)) (all rule (take (most - (n + 1)) (more (drop (before 9 t) t))))
  front n left t lt e =
      let m : most - n ≡ suc (most - (n + 1)) = omega arith in
      ap (λ (gs : List ℕ). all rule (take (most - n) (more gs))) e
      ∙ ap (λ (gs : List (List ℕ)). all rule (take (most - n) gs)) (fields_cut t)
      ∙ ap (λ (k : ℕ). all rule (take k (take (before 9 t) t ∷ more (drop (before 9 t) t)))) m

  pub bad : (new : List X) (n : ℕ) (left t : List ℕ) → ReadSoFar rule fs most old new at n left → n < most → left ≡ 9 ∷ t → rule (take (before 9 t) t) ≡ None → all rule (take most fs) ≡ None
  bad new n left t s lt e r =
      s.are ∙ ap (ahead s.got) (front n left t lt e ∙ ap (λ (o : Option X). both o (all rule (take (most - (n + 1)) (more (drop (before 9 t) t))))) r)

  laid : (n : ℕ) (got : List X) (x : X) → n ≡ length got → at + n < length old → set (paste old at got n) (at + n) x ≡ paste old at (got ++ x ∷ []) (n + 1)
  laid n got x l lt =
      let lb : length got + 1 ≡ length (got ++ x ∷ []) = sym (length_push got x) in
      let big : n < length (got ++ x ∷ []) = omega arith in
      let le : n ≤ length got = omega arith in
      let same : paste old at got n ≡ paste old at (got ++ x ∷ []) n = ap (λ (ys : List X). take at old ++ ys ++ drop (at + n) old) (sym (take-append-le n got (x ∷ []) le)) in
      let here : get_or (got ++ x ∷ []) n x ≡ x = get_or_push got x x n (sym l) in
      ap (λ (ys : List X). set ys (at + n) x) same ∙ ap (λ (y : X). set (paste old at (got ++ x ∷ []) n) (at + n) y) (sym here) ∙ paste_more old at (got ++ x ∷ []) n x lt big

  pub next : (new new' : List X) (n : ℕ) (left t : List ℕ) (x : X) → ReadSoFar rule fs most old new at n left → n < most → left ≡ 9 ∷ t → rule (take (before 9 t) t) ≡ Some x
      → (at + n < length old → new' ≡ set new (at + n) x) → ReadSoFar rule fs most old new' at (n + 1) (drop (before 9 t) t)
  next new new' n left t x s lt e r w =
      let m : most - n ≡ suc (most - (n + 1)) = omega arith in
      record {
        got = s.got ++ x ∷ [];
        are = s.are ∙ ap (ahead s.got) (front n left t lt e ∙ ap (λ (o : Option X). both o (all rule (take (most - (n + 1)) (more (drop (before 9 t) t))))) r) ∙ ahead_both s.got x _;
        many = ap (λ (k : ℕ). k + 1) s.many ∙ sym (length_push s.got x);
        others = ap (λ (k : ℕ). drop k (take (before 9 t) t ∷ more (drop (before 9 t) t))) (sym m) ∙ ap (drop (most - n)) (sym (fields_cut t)) ∙ ap (λ (gs : List ℕ). drop (most - n) (more gs)) (sym e) ∙ s.others;
        stored = λ h.
            let lt' : at + n < length old = omega arith in
            let le : at + n ≤ length old = omega arith in
            let o = s.stored le in
            let l = s.many in
            w lt' ∙ ap (λ (ys : List X). set ys (at + n) x) o ∙ laid n s.got x l lt';
      }

  take_nil : (m : ℕ) → take {A = List ℕ} m [] ≡ []
  take_nil zero = refl
  take_nil (suc m) = refl

  drop_nil : (m : ℕ) → drop {A = List ℕ} m [] ≡ []
  drop_nil zero = refl
  drop_nil (suc m) = refl

  pub done : (new : List X) (n : ℕ) (left : List ℕ) → ReadSoFar rule fs most old new at n left → most ≤ n → n ≤ most → FieldsRead rule fs most old new at n left
  done new n left s h h' =
      let z : most - n ≡ 0 = omega arith in
      record {
        got = s.got;
        are = s.are ∙ ap (λ (m : ℕ). ahead s.got (all rule (take m (more left)))) z ∙ ap Some (append-nil s.got);
        many = s.many;
        others = sym (ap (λ (m : ℕ). drop m (more left)) z) ∙ s.others;
        stored = s.stored;
      }

  pub empty : (new : List X) (n : ℕ) (left : List ℕ) → ReadSoFar rule fs most old new at n left → more left ≡ [] → FieldsRead rule fs most old new at n left
  empty new n left s e =
      record {
        got = s.got;
        are = s.are ∙ ap (λ (gs : List (List ℕ)). ahead s.got (all rule (take (most - n) gs))) e ∙ ap (λ (gs : List (List ℕ)). ahead s.got (all rule gs)) (take_nil (most - n)) ∙ ap Some (append-nil s.got);
        many = s.many;
        others = e ∙ sym (drop_nil (most - n)) ∙ ap (drop (most - n)) (sym e) ∙ s.others;
        stored = s.stored;
      }

  -- the same over what the code holds: the bytes after the tab, and the length of the field there
  pub bad_at : (new : List X) (n : ℕ) (left : List ℕ) (k : ℕ) → ReadSoFar rule fs most old new at n left → n < most → 0 < length left → get_or left 0 0 ≡ 9 → k ≡ before 9 (between 1 (length left) left)
      → rule (take k (between 1 (length left) left)) ≡ None → all rule (take most fs) ≡ None
  bad_at new n left k s lt h m e r = bad new n left _ s lt (after_tab left h m) (subst (λ (j : ℕ). rule (take j (between 1 (length left) left)) ≡ None) e r)

  pub next_at : (new new' : List X) (n : ℕ) (left : List ℕ) (k : ℕ) (x : X) → ReadSoFar rule fs most old new at n left → n < most → 0 < length left → get_or left 0 0 ≡ 9 → k ≡ before 9 (between 1 (length left) left)
      → rule (take k (between 1 (length left) left)) ≡ Some x → (at + n < length old → new' ≡ set new (at + n) x)
      → ReadSoFar rule fs most old new' at (n + 1) (between k (length (between 1 (length left) left)) (between 1 (length left) left))
  next_at new new' n left k x s lt h m e r w =
      let t = between 1 (length left) left in
      subst (ReadSoFar rule fs most old new' at (n + 1)) (ap (λ (j : ℕ). drop j t) (sym e) ∙ sym (take_rest t k))
      (next new new' n left t x s lt (after_tab left h m) (subst (λ (j : ℕ). rule (take j t) ≡ Some x) e r) w)

-- ---- fields are no more than bytes

grown_long : (b m : ℕ) (ps : List (List ℕ)) → length ps ≤ m + 1 → length (grown b ps) ≤ m + 1
grown_long b m [] h = omega arith
grown_long b m (p ∷ ps) h = h

fields_long : (t : List ℕ) → length (fields t) ≤ length t + 1
fields_long [] = omega arith
fields_long (b ∷ bs) =
    let ih = fields_long bs in
    elim (eqb b 9) as (λ y. length (cond y ([] ∷ fields bs) (grown b (fields bs))) ≤ length (b ∷ bs) + 1) [ true ↦ omega arith | false ↦ grown_long b (length (b ∷ bs)) (fields bs) (omega arith) ]

few : (rest : List ℕ) → length (more rest) ≤ length rest
few [] = omega arith
few (b ∷ bs) =
    let l = fields_long bs in
    elim (eqb b 9) as (λ y. length (cond y (fields bs) []) ≤ length (b ∷ bs)) [ true ↦ omega arith | false ↦ omega arith ]

-- reading as many fields as there are bytes reads them all
pub whole : {X : Type 0} (rule : List ℕ → Option X) (rest : List ℕ) (old new : List X) (at n : ℕ) (tail : List ℕ) (g : FieldsRead rule (more rest) (length rest) old new at n tail) → all rule (more rest) ≡ Some g.got
whole rule rest old new at n tail g = ap (all rule) (sym (take_all (length rest) (more rest) (few rest))) ∙ g.are

pub none_of_all : {X : Type 0} (rule : List ℕ → Option X) (rest : List ℕ) → all rule (take (length rest) (more rest)) ≡ None → all rule (more rest) ≡ None
none_of_all rule rest e = ap (all rule) (sym (take_all (length rest) (more rest) (few rest))) ∙ e

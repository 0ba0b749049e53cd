-- The transposes of gather and scatter entry by entry. Assumes nothing.
use Rattle.std.proofs.Common.{◌≡◌, ℕ, suc, ◌+◌, ◌<◌, ◌≤◌, cond, List, [], ◌∷◌, length, get_or, drop, set, sym, refl, ap, ◌∙◌, ap₂, inl, inr, add-one, arith, drop-cons, eq-eqb, ne_eqb}
use Rattle.std.specs.List.{push}
use Rattle.std.proofs.lemmas.List.{get_or_read, length_push, get_or_push, get_or_append_left, get_or-set_same, get_or-set_other, length-drop, get_or-drop, at_drop_all}
use Rattle.std.proofs.lemmas.Bool.{cases_eq}
use Rattle.scalar.specs.Ops.{Ops}
use Rattle.index.specs.Indices.{Inside}
use Rattle.index.specs.Transposes.{put, gathered_back, scattered_back}

put_here : {A : Type 0} (f : ℕ → A) (k : ℕ) (x : A) (l : ℕ) → l ≡ k → put f k x l ≡ x
put_here f k x l e = ap (λ b. cond b x (f l)) (eq-eqb k l (sym e))

put_there : {A : Type 0} (f : ℕ → A) (k : ℕ) (x : A) (l : ℕ) → (l ≡ k → ⊥) → put f k x l ≡ f l
put_there f k x l ne = ap (λ b. cond b x (f l)) (ne_eqb k l (λ e. ne (sym e)))

-- a slice after a write at k, as a function of its rows
set_put : {S M : Type 0} (means : S → M) (xs : List S) (k : ℕ) (v : S) (d : S) (l : ℕ) → k < length xs → means (get_or (set xs k v) l d) ≡ put (λ j. means (get_or xs j d)) k (means v) l
set_put means xs k v d l h = elim (cases_eq l k) [
  | inl e ↦ ap (λ z. means (get_or (set xs k v) z d)) e ∙ ap means (get_or-set_same xs k v d h) ∙ sym (put_here (λ j. means (get_or xs j d)) k (means v) l e)
  | inr ne ↦ ap means (get_or-set_other xs k l v d ne) ∙ sym (put_there (λ j. means (get_or xs j d)) k (means v) l ne)
]

module _ {M : Type 0} (o : Ops M) where
  -- only rows below n are read of q
  pub gathered_same : (list : List ℕ) (i n : ℕ) (p q q' : ℕ → M) → Inside n list → ((l : ℕ) → l < n → q l ≡ q' l) → (l : ℕ) → l < n → gathered_back o list i p q l ≡ gathered_back o list i p q' l
  gathered_same [] i n p q q' inside e l h = e l h
  gathered_same (k ∷ ks) i n p q q' inside e l h =
      gathered_same ks (suc i) n p (put q k (o.plus (q k) (p i))) (put q' k (o.plus (q' k) (p i))) n_inside
      (λ m b. elim (cases_eq m k) [
        | inl same ↦ put_here q k _ m same ∙ ap (λ z. o.plus z (p i)) (e k (inside 0 (omega arith))) ∙ sym (put_here q' k _ m same)
        | inr other ↦ put_there q k _ m other ∙ e m b ∙ sym (put_there q' k _ m other)
      ])
      l h
    where
      n_inside : Inside n ks
      n_inside j b = inside (suc j) (omega arith)

  -- and of p only the places of the list
  pub gathered_like : (list : List ℕ) (i n : ℕ) (p p' q q' : ℕ → M) → Inside n list → ((j : ℕ) → i ≤ j → j < i + length list → p j ≡ p' j) → ((l : ℕ) → l < n → q l ≡ q' l)
      → (l : ℕ) → l < n → gathered_back o list i p q l ≡ gathered_back o list i p' q' l
  gathered_like list i n p p' q q' inside e f l h = by_p list i p p' q e ∙ gathered_same list i n p' q q' inside f l h
    where
      by_p : (ks : List ℕ) (i : ℕ) (p p' q : ℕ → M) → ((j : ℕ) → i ≤ j → j < i + length ks → p j ≡ p' j) → gathered_back o ks i p q l ≡ gathered_back o ks i p' q l
      by_p [] i p p' q e = refl
      by_p (k ∷ ks) i p p' q e =
          ap (λ z. gathered_back o ks (suc i) p (put q k (o.plus (q k) z)) l) (e i (omega arith) (omega arith))
          ∙ by_p ks (suc i) p p' (put q k (o.plus (q k) (p' i))) (λ j a b. e j (omega arith) (omega arith))

  pub record LikeBack (m n : ℕ) (a b : (ℕ → M) × (ℕ → M)) : Type 0 where
    pub first : (l : ℕ) → l < m → a.0 l ≡ b.0 l
    pub second : (l : ℕ) → l < n → a.1 l ≡ b.1 l

  pub scattered_like : (list : List ℕ) (i m n : ℕ) (p p' q q' : ℕ → M) → Inside n list → i + length list ≤ m → ((j : ℕ) → j < m → p j ≡ p' j) → ((l : ℕ) → l < n → q l ≡ q' l)
      → LikeBack m n (scattered_back o list i p q) (scattered_back o list i p' q')
  scattered_like [] i m n p p' q q' inside long e f = record { first = e; second = f }
  scattered_like (k ∷ ks) i m n p p' q q' inside long e f =
      let rest = scattered_like ks (suc i) m n p p' q q' (λ j b. inside (suc j) (omega arith)) (omega arith) e f in
      let w = scattered_back o ks (suc i) p q in
      let w' = scattered_back o ks (suc i) p' q' in
      let value : o.plus (w.0 i) (w.1 k) ≡ o.plus (w'.0 i) (w'.1 k) = ap₂ o.plus (rest.first i (omega arith)) (rest.second k (inside 0 (omega arith))) in
      record {
        first = λ l h. elim (cases_eq l i) [
          | inl same ↦ put_here w.0 i _ l same ∙ value ∙ sym (put_here w'.0 i _ l same)
          | inr other ↦ put_there w.0 i _ l other ∙ rest.first l h ∙ sym (put_there w'.0 i _ l other)
        ];
        second = λ l h. elim (cases_eq l k) [
          | inl same ↦ put_here w.1 k _ l same ∙ sym (put_here w'.1 k _ l same)
          | inr other ↦ put_there w.1 k _ l other ∙ rest.second l h ∙ sym (put_there w'.1 k _ l other)
        ];
      }

-- what is left of the list gives, from the rows now, what the whole list gives from the first rows
pub record GatheringBack {S M : Type 0} (means : S → M) (o : Ops M) (list : List ℕ) (p old cur : List S) (i : ℕ) : Type 0 where
  pub row : (l : ℕ) (d : S) → l < length old
      → gathered_back o (drop i list) i (λ j. means (get_or p j d)) (λ k. means (get_or cur k d)) l ≡ gathered_back o list 0 (λ j. means (get_or p j d)) (λ k. means (get_or old k d)) l

-- the entries from the i-th on have been carried back
pub record ScatteringBack {S M : Type 0} (means : S → M) (o : Ops M) (list : List ℕ) (p₀ p q₀ q : List S) (i : ℕ) : Type 0 where
  pub first : (l : ℕ) (d : S) → l < length p₀ → means (get_or p l d) ≡ (scattered_back o (drop i list) i (λ j. means (get_or p₀ j d)) (λ k. means (get_or q₀ k d))).0 l
  pub second : (l : ℕ) (d : S) → l < length q₀ → means (get_or q l d) ≡ (scattered_back o (drop i list) i (λ j. means (get_or p₀ j d)) (λ k. means (get_or q₀ k d))).1 l

-- what an iterator that goes from the end has left of the list: its first entries
pub record Front (list rest : List ℕ) : Type 0 where
  pub short : length rest ≤ length list
  pub same : (j : ℕ) → j < length rest → get_or rest j 0 ≡ get_or list j 0

pub front_less : (list all rest : List ℕ) (k : ℕ) → all ≡ push rest k → Front list all → Front list rest
front_less list all rest k e front = record {
  short = omega (arith, ap length e ∙ length_push rest k, front.short);
  same = λ j h. sym (ap (λ z. get_or z j 0) e ∙ get_or_append_left rest (k ∷ []) 0 j h) ∙ front.same j (omega (arith, ap length e ∙ length_push rest k));
}

pub front_last : (list all rest : List ℕ) (k : ℕ) → all ≡ push rest k → Front list all → (length rest < length list) × (k ≡ get_or list (length rest) 0)
front_last list all rest k e front =
    let long = ap length e ∙ length_push rest k in
    (omega (arith, long, front.short), sym (ap (λ z. get_or z (length rest) 0) e ∙ get_or_push rest k 0 (length rest) refl) ∙ front.same (length rest) (omega (arith, long)))

module _ {S M : Type 0} (means : S → M) (o : Ops M) (list : List ℕ) where
  pub gathering_more : (p old cur : List S) (i : ℕ) (v : S) → i < length list → length cur ≡ length old → Inside (length old) list
      → ((d : S) → means v ≡ o.plus (means (get_or cur (get_or list i 0) d)) (means (get_or p i d)))
      → GatheringBack means o list p old cur i → GatheringBack means o list p old (set cur (get_or list i 0) v) (i + 1)
  gathering_more p old cur i v h long inside is before = record {
    row = λ l d b.
        let k = get_or list i 0 in
        let P : ℕ → M = λ j. means (get_or p j d) in
        let C : ℕ → M = λ j. means (get_or cur j d) in
        let within : k < length cur = omega (arith, inside i h) in
        let left : Inside (length old) (drop (suc i) list) = λ j m. rw (get_or-drop (suc i) list j 0) (inside (suc i + j) (omega (arith, length-drop (suc i) list))) in
        ap (λ n. gathered_back o (drop n list) n P (λ j. means (get_or (set cur k v) j d)) l) (add-one i)
        ∙ gathered_same o (drop (suc i) list) (suc i) (length old) P _ _ left (λ m c. set_put means cur k v d m within ∙ ap (λ z. put C k z m) (is d)) l b
        ∙ sym (ap (λ ks. gathered_back o ks i P C l) (drop-cons list i 0 h))
        ∙ before.row l d b;
  }

  pub gathering_all : (p old cur : List S) (i : ℕ) → length list ≤ i → GatheringBack means o list p old cur i
      → (l : ℕ) (d : S) → l < length old → means (get_or cur l d) ≡ gathered_back o list 0 (λ j. means (get_or p j d)) (λ k. means (get_or old k d)) l
  gathering_all p old cur i end done l d h =
      sym (at_drop_all (λ ks. gathered_back o ks i (λ j. means (get_or p j d)) (λ k. means (get_or cur k d)) l) list i end) ∙ done.row l d h

  pub scattering_more : (p₀ p q₀ q : List S) (m n : ℕ) (v z : S) → n ≡ suc m → m < length list → length list ≡ length p₀ → length p ≡ length p₀ → length q ≡ length q₀ → Inside (length q₀) list
      → ((d : S) → means v ≡ o.plus (means (get_or p m d)) (means (get_or q (get_or list m 0) d))) → means z ≡ o.zero
      → ScatteringBack means o list p₀ p q₀ q n → ScatteringBack means o list p₀ (set p m v) q₀ (set q (get_or list m 0) z) m
  scattering_more p₀ p q₀ q m n v z e h long lp lq inside is none before =
      let k = get_or list m 0 in
      let within : k < length q₀ = inside m h in
      record {
        first = λ l d b.
            let P : ℕ → M = λ j. means (get_or p₀ j d) in
            let Q : ℕ → M = λ j. means (get_or q₀ j d) in
            let then = λ (j : ℕ) (c : j < length p₀). before.first j d c ∙ ap (λ i. (scattered_back o (drop i list) i P Q).0 j) e in
            let other = before.second k d within ∙ ap (λ i. (scattered_back o (drop i list) i P Q).1 k) e in
            let w = scattered_back o (drop (suc m) list) (suc m) P Q in
            let value : means v ≡ o.plus (w.0 m) (w.1 k) = is d ∙ ap₂ o.plus (then m (omega arith)) other in
            elim (cases_eq l m) [
              | inl same ↦
                  set_put means p m v d l (omega arith) ∙ put_here (λ j. means (get_or p j d)) m (means v) l same ∙ value
                  ∙ sym (ap (λ ks. (scattered_back o ks m P Q).0 l) (drop-cons list m 0 h) ∙ put_here w.0 m (o.plus (w.0 m) (w.1 k)) l same)
              | inr apart ↦
                  set_put means p m v d l (omega arith) ∙ put_there (λ j. means (get_or p j d)) m (means v) l apart ∙ then l b
                  ∙ sym (ap (λ ks. (scattered_back o ks m P Q).0 l) (drop-cons list m 0 h) ∙ put_there w.0 m (o.plus (w.0 m) (w.1 k)) l apart)
            ];
        second = λ l d b.
            let P : ℕ → M = λ j. means (get_or p₀ j d) in
            let Q : ℕ → M = λ j. means (get_or q₀ j d) in
            let w = scattered_back o (drop (suc m) list) (suc m) P Q in
            elim (cases_eq l k) [
              | inl same ↦
                  set_put means q k z d l (omega arith) ∙ put_here (λ j. means (get_or q j d)) k (means z) l same ∙ none
                  ∙ sym (ap (λ ks. (scattered_back o ks m P Q).1 l) (drop-cons list m 0 h) ∙ put_here w.1 k o.zero l same)
              | inr apart ↦
                  set_put means q k z d l (omega arith) ∙ put_there (λ j. means (get_or q j d)) k (means z) l apart ∙ before.second l d b ∙ ap (λ i. (scattered_back o (drop i list) i P Q).1 l) e
                  ∙ sym (ap (λ ks. (scattered_back o ks m P Q).1 l) (drop-cons list m 0 h) ∙ put_there w.1 k o.zero l apart)
            ];
      }

-- the list is gone through from its end: what is left of it are its first entries, and those after them have been carried back
pub record Returning {S M : Type 0} (means : S → M) (o : Ops M) (list : List ℕ) (p₀ p q₀ q : List S) (count : ℕ) (rest : List ℕ) : Type 0 where
  pub from_start : count ≡ 0
  pub front : Front list rest
  pub back : ScatteringBack means o list p₀ p q₀ q (length rest)

-- the entry before them names a row
pub returning_within : {S M : Type 0} (means : S → M) (o : Ops M) (list : List ℕ) (p₀ p q₀ q : List S) (count k : ℕ) (all rest : List ℕ)
    → Returning means o list p₀ p q₀ q count all → all ≡ push rest k → Inside (length q₀) list → k < length q₀
returning_within means o list p₀ p q₀ q count k all rest so next inside = let last = front_last list all rest k next so.front in rw last.1 (inside (length rest) last.0)

-- it is carried back, and left no more
pub returning_more : {S M : Type 0} (means : S → M) (o : Ops M) (list : List ℕ) (p₀ p q₀ q : List S) (count count' i k : ℕ) (all rest : List ℕ) (pi qk v z : S)
    → Returning means o list p₀ p q₀ q count all → (count' ≡ count) × (all ≡ push rest k × i ≡ count + length rest × i + 1 < 18446744073709551616)
    → length list ≡ length p₀ → Inside (length q₀) list → length p ≡ length p₀ → length q ≡ length q₀
    → pi ≡ get_or p i pi → qk ≡ get_or q k qk → means v ≡ o.plus (means pi) (means qk) → means z ≡ o.zero
    → Returning means o list p₀ (set p i v) q₀ (set q k z) count' rest
returning_more means o list p₀ p q₀ q count count' i k all rest pi qk v z so next long inside lp lq at_p at_q sum none =
    let n = length rest in
    let last = front_last list all rest k next.1.0 so.front in
    let at_i : i ≡ n = omega (arith, next.1.1, so.from_start) in
    let within : k < length q₀ = rw last.1 (inside n last.0) in
    let more = scattering_more means o list p₀ p q₀ q n (length all) v z (omega (arith, ap length next.1.0 ∙ length_push rest k)) last.0 long lp lq inside
    (λ d.
    let a = get_or_read p i pi (omega (arith, last.0)) at_p d in
    let b = get_or_read q k qk (omega arith) at_q d in
    rw (← last.1, ← at_i) (sum ∙ ap₂ o.plus (ap means a) (ap means b)))
    none so.back in
    record {
      from_start = next.0 ∙ so.from_start;
      front = front_less list all rest k next.1.0 so.front;
      back = rw (at_i, last.1) more;
    }

-- A list gone through entry by entry: what one more entry leaves. Assumes nothing.
use Rattle.std.proofs.Common.{◌≡◌, ℕ, suc, ◌+◌, ◌<◌, ◌≤◌, cond, eqb, List, [], ◌∷◌, ◌++◌, length, get_or, take, set, sym, refl, ap, ◌∙◌, inl, inr, subst, arith, take_all, eq-eqb, ne_eqb}
use Rattle.std.proofs.lemmas.List.{take_more, get_or-set_same, get_or-set_other, length-take}
use Rattle.std.proofs.lemmas.Bool.{cases_eq}
use Rattle.shape.proofs.Parts.{Filled, filled_more}
use Rattle.index.specs.Indices.{settled}
use Rattle.index.specs.Routes.{became, Ready, pair_of}
use Rattle.index.specs.declared.route.Route.{Route}
use Rattle.index.specs.declared.route.Route.TheVariants.{Gather, Scatter, Copy}

module _ {A : Type 0} (u : ℕ → A) where
  push : (ms : List ℕ) (m i k : ℕ) (held : A) → settled (ms ++ (m ∷ [])) i k u held ≡ cond (eqb m k) (u (i + length ms)) (settled ms i k u held)
  push [] m i k held = ap (λ z. cond (eqb m k) (u z) held) (omega arith)
  push (n ∷ ms) m i k held = push ms m (suc i) k (cond (eqb n k) (u i) held) ∙ ap (λ z. cond (eqb m k) (u z) (settled ms (suc i) k u (cond (eqb n k) (u i) held))) (omega arith)

  pub settle : (list : List ℕ) (i k : ℕ) (held : A) → i < length list
      → settled (take (i + 1) list) 0 k u held ≡ cond (eqb (get_or list i 0) k) (u i) (settled (take i list) 0 k u held)
  settle list i k held h =
      let long : 0 + length (take i list) ≡ i = simp length-take (omega arith) in
      ap (λ l. settled l 0 k u held) (take_more list i 0 h) ∙ push (take i list) (get_or list i 0) 0 k held
      ∙ ap (λ z. cond (eqb (get_or list i 0) k) (u z) (settled (take i list) 0 k u held)) long

-- only the places of the list are read
pub settled_same : {A : Type 0} (u u' : ℕ → A) (list : List ℕ) (i k : ℕ) (held : A) → ((p : ℕ) → i ≤ p → p < i + length list → u p ≡ u' p) → settled list i k u held ≡ settled list i k u' held
settled_same u u' [] i k held e = refl
settled_same u u' (m ∷ ms) i k held e =
    ap (λ z. settled ms (suc i) k u (cond (eqb m k) z held)) (e i (omega arith) (omega arith))
    ∙ settled_same u u' ms (suc i) k (cond (eqb m k) (u' i) held) (λ p h l. e p (omega arith) (omega arith))

-- only rows of the source are read
pub became_same : {A : Type 0} (route : Route) (list : List ℕ) (m n : ℕ) (u u' : ℕ → A) (held : A) (k : ℕ) → Ready route list m n → k < n → ((i : ℕ) → i < m → u i ≡ u' i)
    → became route list u held k ≡ became route list u' held k
became_same Gather list m n u u' held k ready h e = e (get_or list k 0) (ready.1 k (omega arith))
became_same Scatter list m n u u' held k ready h e = settled_same u u' list 0 k held (λ p _ l. e p (omega arith))
became_same Copy list m n u u' held k ready h e = settled_same (λ i. u (get_or list i 0)) (λ i. u' (get_or list i 0)) list 0 k held (λ p _ l. e (get_or list p 0) (ready.0 p (omega arith)))

-- after the first i entries of the list every row is settled
pub record Settling {S : Type 0} (u : S → ℕ → S) (list : List ℕ) (old cur : List S) (i : ℕ) : Type 0 where
  pub row : (k : ℕ) (d : S) → k < length old → get_or cur k d ≡ settled (take i list) 0 k (u d) (get_or old k d)

module _ {S : Type 0} (u : S → ℕ → S) (list : List ℕ) (old : List S) where
  pub settling_more : (cur : List S) (i : ℕ) (v : S) → i < length list → length cur ≡ length old → get_or list i 0 < length cur → ((d : S) → v ≡ u d i)
      → Settling u list old cur i → Settling u list old (set cur (get_or list i 0) v) (i + 1)
  settling_more cur i v h long within is before = record {
    row = λ k d l. elim (cases_eq k (get_or list i 0)) [
      | inl same ↦
          let here : get_or (set cur (get_or list i 0) v) k d ≡ v = ap (λ z. get_or (set cur (get_or list i 0) v) z d) same ∙ get_or-set_same cur (get_or list i 0) v d within in
          here ∙ is d ∙ sym (settle (u d) list i k (get_or old k d) h ∙ ap (λ z. cond z (u d i) (settled (take i list) 0 k (u d) (get_or old k d))) (eq-eqb (get_or list i 0) k (sym same)))
      | inr other ↦
          get_or-set_other cur (get_or list i 0) k v d other ∙ before.row k d l
          ∙ sym (settle (u d) list i k (get_or old k d) h ∙ ap (λ z. cond z (u d i) (settled (take i list) 0 k (u d) (get_or old k d))) (ne_eqb (get_or list i 0) k (λ e. other (sym e))))
    ];
  }

  pub settling_all : (cur : List S) (i : ℕ) → length list ≤ i → Settling u list old cur i → (k : ℕ) (d : S) → k < length old → get_or cur k d ≡ settled list 0 k (u d) (get_or old k d)
  settling_all cur i end done k d h = done.row k d h ∙ ap (λ l. settled l 0 k (u d) (get_or old k d)) (take_all i list end)

-- after the first i entries, by the route: of a gather these rows are done, of the others every row is settled
abbrev pub Routing : {S : Type 0} → Route → (S → ℕ → S) → List ℕ → List S → List S → ℕ → Type 0
Routing {S = S} Gather u list old cur i = Filled (λ k v. (d : S) → v ≡ u d (get_or list k 0)) old cur i
Routing Scatter u list old cur i = Settling u list old cur i
Routing Copy u list old cur i = Settling (λ d p. u d (get_or list p 0)) list old cur i

-- the rows of entry i exist
pair_within : (route : Route) (list : List ℕ) (m n i : ℕ) → Ready route list m n → i < length list
    → ((pair_of route i (get_or list i 0)).0 < m) × ((pair_of route i (get_or list i 0)).1 < n)
pair_within Gather list m n i ready h = (ready.1 i h, omega (arith, ready.0))
pair_within Scatter list m n i ready h = (omega (arith, ready.0), ready.1 i h)
pair_within Copy list m n i ready h = (ready.0 i h, ready.1 i h)

pub rows_within : (route : Route) (list : List ℕ) (m n i : ℕ) (rows : ℕ × ℕ) → rows ≡ pair_of route i (get_or list i 0) → Ready route list m n → i < length list → (rows.0 < m) × (rows.1 < n)
rows_within route list m n i rows e ready h = subst (λ (r : ℕ × ℕ). (r.0 < m) × (r.1 < n)) (sym e) (pair_within route list m n i ready h)

module _ {S : Type 0} (u : S → ℕ → S) (list : List ℕ) (old : List S) where
  routing_pair : (route : Route) (cur : List S) (i : ℕ) (v : S) → i < length list → length cur ≡ length old → (pair_of route i (get_or list i 0)).1 < length cur
      → ((d : S) → v ≡ u d (pair_of route i (get_or list i 0)).0) → Routing route u list old cur i → Routing route u list old (set cur (pair_of route i (get_or list i 0)).1 v) (i + 1)
  routing_pair Gather cur i v h long within is before = filled_more _ old cur i v before within is
  routing_pair Scatter cur i v h long within is before = settling_more u list old cur i v h long within is before
  routing_pair Copy cur i v h long within is before = settling_more (λ d p. u d (get_or list p 0)) list old cur i v h long within is before

  pub routing_more : (route : Route) (rows : ℕ × ℕ) (cur : List S) (i : ℕ) (v : S) → rows ≡ pair_of route i (get_or list i 0) → i < length list → length cur ≡ length old → rows.1 < length cur
      → ((d : S) → v ≡ u d rows.0) → Routing route u list old cur i → Routing route u list old (set cur rows.1 v) (i + 1)
  routing_more route rows cur i v e h long within is before =
      subst (λ (r : ℕ × ℕ). r.1 < length cur → ((d : S) → v ≡ u d r.0) → Routing route u list old (set cur r.1 v) (i + 1)) (sym e)
      (λ within is. routing_pair route cur i v h long within is before) within is

  pub routing_all : (route : Route) (m : ℕ) (cur : List S) (i : ℕ) → Ready route list m (length old) → length list ≤ i → Routing route u list old cur i
      → (k : ℕ) (d : S) → k < length old → get_or cur k d ≡ became route list (u d) (get_or old k d) k
  routing_all Gather m cur i ready end done k d h = done.done k d (omega (arith, ready.0)) d
  routing_all Scatter m cur i ready end done k d h = settling_all u list old cur i end done k d h
  routing_all Copy m cur i ready end done k d h = settling_all (λ d p. u d (get_or list p 0)) list old cur i end done k d h

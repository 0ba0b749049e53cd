-- What the calls on lists of rows leave, by meanings. Assumes nothing.
use Rattle.std.proofs.Common.{◌≡◌, ℕ, suc, ◌+◌, ◌<◌, Bool, true, false, cond, eqb, List, [], ◌∷◌, length, get_or, sym, ap, ◌∙◌, subst, ap₂, arith}
use Rattle.scalar.specs.Ops.{Ops}
use Rattle.scalar.specs.Sums.{at}
use Rattle.scalar.proofs.Stored.{at_get, at_same, at_is}
use Rattle.shape.specs.Shapes.{cell, Lawful}
use Rattle.shape.specs.Lanes.{lane_for}
use Rattle.shape.specs.Refusals.{first_of}
use Rattle.shape.specs.declared.operand.Column.{Column}
use Rattle.shape.proofs.Blocks.{cell_fits}
use Rattle.index.specs.Indices.{outside, settled}
use Rattle.index.specs.Calls.{gather_tests, scatter_tests, Routed}
use Rattle.index.specs.declared.route.Route.{Route}
use Rattle.index.specs.declared.route.Route.TheVariants.{Gather, Scatter}
use Rattle.index.proofs.Tested.{inside_of}
use Rattle.forward.proofs.Passes.{gather_passes, scatter_passes}
use Rattle.shape.proofs.Passes.{own_lane}
use Rattle.forward.proofs.Families.{Written, written}

cond_means : {S M : Type 0} (means : S → M) (t : Bool) (x y : S) (x' y' : M) → means x ≡ x' → means y ≡ y' → means (cond t x y) ≡ cond t x' y'
cond_means means true x y x' y' e h = e
cond_means means false x y x' y' e h = h

-- what a row holds after a list means what its rows mean
settled_means : {S M : Type 0} (means : S → M) (list : List ℕ) (i k : ℕ) (u : ℕ → S) (held : S) (u' : ℕ → M) (held' : M)
    → ((m : ℕ) → m < i + length list → means (u m) ≡ u' m) → means held ≡ held' → means (settled list i k u held) ≡ settled list i k u' held'
settled_means means [] i k u held u' held' e h = h
settled_means means (m ∷ ms) i k u held u' held' e h =
    settled_means means ms (suc i) k u (cond (eqb m k) (u i) held) u' (cond (eqb m k) (u' i) held')
    (λ l b. e l (omega arith)) (cond_means means (eqb m k) (u i) held (u' i) held' (e i (omega arith)) h)

module _ {S M : Type 0} (means : S → M) (o : Ops M) where
  -- both columns under their own names
  named : (route : Route) (x x' : Column) (xs : List S) (list : List ℕ) (y y' : Column) (old cur : List S) → x' ≡ x → y' ≡ y → Routed route x' xs list y' old cur → Routed route x xs list y old cur
  named route x x' xs list y y' old cur ex ey r =
      subst (λ (p : Column). Routed route p xs list y old cur) ex (subst (λ (q : Column). Routed route x' xs list q old cur) ey r)

  pub gathered : (list : List ℕ) (x x' : Column) (xs : List S) (y y' : Column) (old cur : List S) (k : ℕ)
      → x' ≡ x → y' ≡ y → Lawful x (length xs) → Lawful y (length old) → x.of.lanes ≡ y.of.lanes → length list ≡ y.of.rows → outside x.of.rows list ≡ false
      → length cur ≡ length old → k ≡ first_of (gather_tests x' (length xs) list y' (length old)) → (k ≡ 0 → Routed Gather x' xs list y' old cur)
      → Written means o y (λ b i. at means o xs (cell x.of b x.col (get_or list i 0))) old cur
  gathered list x x' xs y y' old cur k ex ey lx ly lanes long inside same verdict accepted =
      let passes = verdict ∙ ap₂ (λ p q. first_of (gather_tests p (length xs) list q (length old))) ex ey ∙ gather_passes x (length xs) list y (length old) lx ly lanes long inside in
      written means o y _ (λ b i. at means o xs (cell x.of b x.col (get_or list i 0))) old cur ly same
      (λ b i w q.
      let own = own_lane b x.of.lanes y.of.lanes lanes (omega (arith, w.lane)) in
      let below = inside_of x.of.rows list inside i (omega (arith, w.row)) in
      let there = cell_fits y.of (length old) b y.col i ly.fits w in
      let read = cell_fits x.of (length xs) b x.col (get_or list i 0) lx.fits (record { lane = omega (arith, w.lane); col = lx.within; row = below }) in
      at_same means o cur xs (cell y.of b y.col i) (cell x.of b x.col (get_or list i 0)) (omega arith) read
      (λ d. q d d ∙ ap (λ z. get_or xs (cell x.of z x.col (get_or list i 0)) d) own))
      (named Gather x x' xs list y y' old cur ex ey (accepted passes))

  pub scattered : (list : List ℕ) (x x' : Column) (xs : List S) (y y' : Column) (old cur : List S) (k : ℕ)
      → x' ≡ x → y' ≡ y → Lawful x (length xs) → Lawful y (length old) → x.of.lanes ≡ y.of.lanes → length list ≡ x.of.rows → outside y.of.rows list ≡ false
      → length cur ≡ length old → k ≡ first_of (scatter_tests x' (length xs) list y' (length old)) → (k ≡ 0 → Routed Scatter x' xs list y' old cur)
      → Written means o y (λ b i. settled list 0 i (λ m. at means o xs (cell x.of b x.col m)) (at means o old (cell y.of b y.col i))) old cur
  scattered list x x' xs y y' old cur k ex ey lx ly lanes long inside same verdict accepted =
      let passes = verdict ∙ ap₂ (λ p q. first_of (scatter_tests p (length xs) list q (length old))) ex ey ∙ scatter_passes x (length xs) list y (length old) lx ly lanes long inside in
      written means o y _ (λ b i. settled list 0 i (λ m. at means o xs (cell x.of b x.col m)) (at means o old (cell y.of b y.col i))) old cur ly same
      (λ b i w q.
      let own = own_lane b x.of.lanes y.of.lanes lanes (omega (arith, w.lane)) in
      let there = cell_fits y.of (length old) b y.col i ly.fits w in
      at_is means o cur (cell y.of b y.col i) _ (omega arith)
      (λ d.
      ap means (q d d)
      ∙ settled_means means list 0 i (λ m. get_or xs (cell x.of (lane_for b x.of.lanes y.of.lanes) x.col m) d) (get_or old (cell y.of b y.col i) d)
      (λ m. at means o xs (cell x.of b x.col m)) (at means o old (cell y.of b y.col i))
      (λ m h.
      let read = cell_fits x.of (length xs) b x.col m lx.fits (record { lane = omega (arith, w.lane); col = lx.within; row = omega arith }) in
      ap (λ z. means (get_or xs (cell x.of z x.col m) d)) own ∙ sym (at_get means o xs (cell x.of b x.col m) d read))
      (sym (at_get means o old (cell y.of b y.col i) d there))))
      (named Scatter x x' xs list y y' old cur ex ey (accepted passes))

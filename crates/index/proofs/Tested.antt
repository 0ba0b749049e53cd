-- What an accepted index call knows of its operands and its list. Assumes nothing.
use Rattle.std.proofs.Common.{◌≡◌, ℕ, zero, suc, false, ◌||◌, leb, List, [], ◌∷◌, length, take, drop, refl, sym, ap, ◌∙◌, arith}
use Rattle.std.proofs.lemmas.List.{take-append-drop}
use Rattle.std.proofs.lemmas.List.Folds.{list_any-append}
use Rattle.std.proofs.lemmas.Bool.{or_parts, leb-false, eqb-true, not-false}
use Rattle.shape.specs.Refusals.{first_of}
use Rattle.shape.specs.declared.operand.Column.{Column}
use Rattle.shape.proofs.Verdicts.{clear, two_clear}
use Rattle.index.specs.Calls.{route_tests, RouteLawful}
use Rattle.index.specs.Routes.{wrong_length, beyond, Ready}
use Rattle.index.specs.declared.route.Route.{Route}
use Rattle.index.specs.declared.route.Route.TheVariants.{Gather, Scatter, Copy}
use Rattle.index.specs.Indices.{outside, Inside}

-- an index is outside in a part of the list or behind it
pub parted : (n i : ℕ) (list : List ℕ) → outside n list ≡ (outside n (take i list) || outside n (drop i list))
parted n i list = sym (ap (outside n) (take-append-drop i list)) ∙ list_any-append (leb n) (take i list) (drop i list)

pub inside_of : (n : ℕ) (list : List ℕ) → outside n list ≡ false → Inside n list
inside_of n [] e i h = absurd (omega arith)
inside_of n (k ∷ ks) e zero h = leb-false n k (or_parts (leb n k) (outside n ks) e).0
inside_of n (k ∷ ks) e (suc i) h = inside_of n ks (or_parts (leb n k) (outside n ks) e).1 i (omega arith)

ready_of : (route : Route) (list : List ℕ) (m n : ℕ) → wrong_length route (length list) m n ≡ false → beyond route list m n ≡ false → Ready route list m n
ready_of Gather list m n w b = (eqb-true _ _ (not-false _ w), inside_of m list b)
ready_of Scatter list m n w b = (eqb-true _ _ (not-false _ w), inside_of n list b)
ready_of Copy list m n w b = let p = or_parts (outside m list) (outside n list) b in (inside_of m list p.0, inside_of n list p.1)

pub route_passed : (route : Route) (x : Column) (xl : ℕ) (list : List ℕ) (y : Column) (yl : ℕ) → first_of (route_tests route x xl list y yl) ≡ 0 → RouteLawful route x xl list y yl
route_passed route x xl list y yl e =
    let p = clear (route_tests route x xl list y yl) refl e in
    let two = two_clear x xl y yl p.0 p.1.0 p.1.1.0 p.1.1.1.0 in
    let q = p.1.1.1.1.1 in
    record { source = two.source; target = two.target; ready = ready_of route list x.of.rows y.of.rows q.0 q.1.0 }

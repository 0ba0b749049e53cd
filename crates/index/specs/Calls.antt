-- What the index calls answer and write: column y from column x, of the lane that is read. Assumes nothing.
use Rattle.std.specs.Prelude.{◌≡◌, ℕ, Bool, not, ◌||◌, List, [], ◌∷◌, ◌++◌, length, ◌==◌, slice_index_or}
use Rattle.shape.specs.Shapes.{cell, Lawful}
use Rattle.shape.specs.Lanes.{lane_for, no_broadcast}
use Rattle.shape.specs.Operands.{column_tests, two_tests}
use Rattle.shape.specs.Changes.{Changed, InColumn}
use Rattle.shape.specs.declared.operand.Column.{Column}
use Rattle.index.specs.Indices.{outside, Inside, settled}
use Rattle.index.specs.Routes.{became, Ready, wrong_length, beyond}
use Rattle.index.specs.declared.route.Route.{Route}

-- row k of column x, of the lane that lane b of y reads, at any default
abbrev pub read : {S : Type 0} → Column → List S → Column → ℕ → S → ℕ → S
read x xs y b d k = slice_index_or xs (cell x.of (lane_for b x.of.lanes y.of.lanes) x.col k) d

-- row k of column y as it was
abbrev pub held : {S : Type 0} → Column → List S → ℕ → S → ℕ → S
held y ys b d k = slice_index_or ys (cell y.of b y.col k) d

-- every row of column y became what the route says, and no other cell moved
abbrev pub Routed : {S : Type 0} → Route → Column → List S → List ℕ → Column → List S → List S → Type 0
Routed {S = S} route x xs list y old cur =
    Changed y.of (InColumn y.col) (λ b j k v. (d : S) → v ≡ became route list (read x xs y b d) (held y old b d k) k) old cur

-- each row that the list names became the value; the others hold what they held
abbrev pub Assigned : {S : Type 0} → S → List ℕ → Column → List S → List S → Type 0
Assigned {S = S} value list y old cur =
    Changed y.of (InColumn y.col) (λ b j k v. (d : S) → v ≡ settled list 0 k (λ i. value) (held y old b d k)) old cur

-- ---- the tests; row counts need not agree

abbrev pub gather_tests : Column → ℕ → List ℕ → Column → ℕ → List (ℕ × Bool)
gather_tests x xl list y yl =
    two_tests x xl y yl
    ++ ((8, no_broadcast x.of.lanes y.of.lanes) ∷ (9, not (length list == y.of.rows)) ∷ (10, outside x.of.rows list) ∷ [])

abbrev pub scatter_tests : Column → ℕ → List ℕ → Column → ℕ → List (ℕ × Bool)
scatter_tests x xl list y yl =
    two_tests x xl y yl
    ++ ((8, no_broadcast x.of.lanes y.of.lanes) ∷ (9, not (length list == x.of.rows)) ∷ (10, outside y.of.rows list) ∷ [])

abbrev pub copy_tests : Column → ℕ → List ℕ → Column → ℕ → List (ℕ × Bool)
copy_tests x xl list y yl =
    two_tests x xl y yl ++ ((8, no_broadcast x.of.lanes y.of.lanes) ∷ (10, outside x.of.rows list || outside y.of.rows list) ∷ [])

-- the three as one: a copy tests no length, and its test of that never fits
abbrev pub route_tests : Route → Column → ℕ → List ℕ → Column → ℕ → List (ℕ × Bool)
route_tests route x xl list y yl =
    two_tests x xl y yl
    ++ ((8, no_broadcast x.of.lanes y.of.lanes)
    ∷ (9, wrong_length route (length list) x.of.rows y.of.rows)
    ∷ (10, beyond route list x.of.rows y.of.rows) ∷ [])

abbrev pub assign_tests : List ℕ → Column → ℕ → List (ℕ × Bool)
assign_tests list y yl = column_tests y yl ++ ((10, outside y.of.rows list) ∷ [])

-- what passing them tells
pub record RouteLawful (route : Route) (x : Column) (xl : ℕ) (list : List ℕ) (y : Column) (yl : ℕ) : Type 0 where
  pub source : Lawful x xl
  pub target : Lawful y yl
  pub ready : Ready route list x.of.rows y.of.rows

pub record AssignLawful (list : List ℕ) (y : Column) (yl : ℕ) : Type 0 where
  pub target : Lawful y yl
  pub inside : Inside y.of.rows list

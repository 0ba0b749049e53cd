-- What the index calls on tables answer and write: a list names cells of a lane, from the lane's start on. Assumes nothing.
use Rattle.std.specs.Prelude.{◌≡◌, ℕ, ◌+◌, ◌*◌, ◌<◌, ◌≤◌, Bool, ◌||◌, List, [], ◌∷◌, ◌++◌, length, take, nat_lt, slice_index, slice_index_or}
use Rattle.shape.specs.Shapes.{start, cell, no_column, Fits, Lawful}
use Rattle.shape.specs.Lanes.{lane_for, no_broadcast}
use Rattle.shape.specs.Operands.{shapes_tests}
use Rattle.shape.specs.Changes.{Changed, Everywhere}
use Rattle.shape.specs.declared.operand.TableShape.{TableShape}
use Rattle.shape.specs.declared.operand.Column.{Column}
use Rattle.index.specs.Indices.{outside, Inside, settled}

-- the cells of a lane
abbrev pub lane_cells : TableShape → ℕ
lane_cells t = t.rows * t.cols

-- the cells that lie, in a table of r rows, at the first n places of their lane
abbrev pub InFirst : ℕ → ℕ → ℕ → ℕ → ℕ → Type 0
InFirst r n b j i = j * r + i < n

-- the cell of x at place p of the lane that lane b of t reads
abbrev pub placed : {S : Type 0} → TableShape → List S → TableShape → ℕ → ℕ → S → S
placed x xs t b p d = slice_index_or xs (start x (lane_for b x.lanes t.lanes) 0 + p) d

-- in every lane the cell at place p became x's at place list(p), for the places of the list
abbrev pub Gathered : {S : Type 0} → TableShape → List S → List ℕ → TableShape → List S → List S → Type 0
Gathered {S = S} x xs list t old cur =
    Changed t (InFirst t.rows (length list)) (λ b j i v. (d : S) → v ≡ placed x xs t b (slice_index list (j * t.rows + i)) d) old cur

-- the entries of a that have a partner in b
abbrev pub paired : List ℕ → List ℕ → List ℕ
paired a b = take (length b) a

-- in every lane, in list order, the cell at place dst(p) became row src(p) of v; the others hold what they held
abbrev pub SetByPairs : {S : Type 0} → List ℕ → List ℕ → Column → List S → TableShape → List S → List S → Type 0
SetByPairs {S = S} dst src v vs t old cur =
    Changed t Everywhere
    (λ b j i w. (d : S) → w ≡ settled (paired dst src) 0 (j * t.rows + i) (λ p. slice_index_or vs (cell v.of (lane_for b v.of.lanes t.lanes) v.col (slice_index src p)) d) (slice_index_or old (cell t b j i) d)) old cur

-- ---- the tests

abbrev pub cells_tests : TableShape → ℕ → List ℕ → TableShape → ℕ → List (ℕ × Bool)
cells_tests x xl list t tl =
    shapes_tests x xl t tl ++ ((8, no_broadcast x.lanes t.lanes) ∷ (10, nat_lt (lane_cells t) (length list) || outside (lane_cells x) list) ∷ [])

abbrev pub pairs_tests : List ℕ → List ℕ → Column → ℕ → TableShape → ℕ → List (ℕ × Bool)
pairs_tests dst src v vl t tl =
    shapes_tests v.of vl t tl
    ++ ((4, no_column v) ∷ (8, no_broadcast v.of.lanes t.lanes) ∷ (10, outside (lane_cells t) (paired dst src) || outside v.of.rows (paired src dst)) ∷ [])

-- what passing them tells
pub record CellsLawful (x : TableShape) (xl : ℕ) (list : List ℕ) (t : TableShape) (tl : ℕ) : Type 0 where
  pub source : Fits x xl
  pub target : Fits t tl
  pub short : length list ≤ lane_cells t
  pub inside : Inside (lane_cells x) list

pub record PairsLawful (dst src : List ℕ) (v : Column) (vl : ℕ) (t : TableShape) (tl : ℕ) : Type 0 where
  pub source : Lawful v vl
  pub target : Fits t tl
  pub inside : Inside (lane_cells t) (paired dst src)
  pub rows : (p : ℕ) → p < length (paired dst src) → slice_index src p < v.of.rows

use Rattle.std.proofs.Common.{◌≡◌, ◌+◌, ◌*◌, get_or}
use Rattle.shape.specs.Shapes.{cell}
use Rattle.shape.specs.Lanes.{lane_for}
use Rattle.shape.specs.Changes.{Changed, LanesBand}
use Rattle.index.specs.Indices.{settled}
use Rattle.index.specs.Tables.{paired}
use Rattle.index.proofs.cells.set_lanes.Given as goal

abbrev pub invariant-loop-lane : goal.invariant-loop-lane
invariant-loop-lane g l =
    Changed l.t (LanesBand l.lane 0 l.t.cols)
    (λ b j i w. (d : g.row.S.Denot) → w ≡ settled (paired l.dst l.src) 0 (j * l.t.rows + i) (λ p. get_or l.vs (cell l.v.of (lane_for b l.v.of.lanes l.t.lanes) l.v.col (get_or l.src p 0)) d) (get_or l.initial.ts (cell l.t b j i) d))
    l.initial.ts l.ts

use Rattle.shape.specs.Changes.{Changed, LanesBand, meant}
use Rattle.product.specs.Rows.{summed}
use Rattle.product.specs.Results.{broadcast, row_made}
use Rattle.product.proofs.multiply.band_lanes.Given as goal

abbrev pub invariant-loop-lane : goal.invariant-loop-lane
invariant-loop-lane g l =
    let s = g.S.Scalar in
    Changed l.y.of (LanesBand l.lane l.y.col 1)
    (meant s.means
    (row_made s.means s.ops (summed s.ops) (s.means l.a.0) l.t.of l.ts l.t.first l.t.count (broadcast s.means s.ops l.x l.xs l.y.of.lanes) (s.means l.b.0) l.y l.initial.ys))
    l.initial.ys l.ys

use Rattle.std.proofs.Common.{◌+◌, length, ap, ◌∙◌, arith}
use Rattle.scalar.specs.Sums.{at}
use Rattle.shape.specs.Changes.{LanesBand}
use Rattle.shape.proofs.Broadcast.{reads_from, reads_within}
use Rattle.product.specs.Results.{row_of}
use Rattle.product.proofs.Entries.{cell_kept}
use Rattle.shape.proofs.Cells.{lane_more}
use Rattle.differences.proofs.RowLaws.{updated_cong}
use Rattle.differences.proofs.update.update_lanes.Goals as goal

pub update_lane-requires-clause-source : goal.update_lane-requires-clause-source
update_lane-requires-clause-source g c =
    let within = reads_within c.args.d (length c.args.ds.now) c.args.t.lanes c.loop-lane.lane c.lane_for.result c.start-from.result c.requires.source c.loop-lane-test.true c.requires.fits.few_lanes c.lane_for.ensures c.start-from.ensures in
    omega (arith, c.requires.rows)

pub loop-lane-preserved : goal.loop-lane-preserved
loop-lane-preserved g c =
    let s = g.S.Scalar in
    let t = c.args.t in
    let k = c.args.order in
    let d = c.args.d in
    let ds = c.args.ds.now in
    let n = c.loop-lane.lane in
    let old = c.args.ts.now in
    let cur = c.loop-lane.ts in
    let from = reads_from d (length ds) t.lanes n c.lane_for.result c.start-from.result c.requires.source c.loop-lane-test.true c.requires.fits.few_lanes c.lane_for.ensures c.start-from.ensures in
    lane_more t n 0 (k + 3) _ _ old cur c.update_lane.new.ts
    (λ j i v w low high q.
    q ∙ updated_cong s.ops (row_of s.means s.ops t cur n i) (row_of s.means s.ops t old n i) _ _ k j (omega arith)
    (λ l less. cell_kept s.means s.ops t (LanesBand n 0 (k + 3)) _ old cur c.requires.fits c.loop-lane.auto.ts c.loop-lane.invariant n l i (record { lane = w.lane; col = omega arith; row = w.row }) (λ x. omega arith))
    (ap (λ a. at s.means s.ops ds (a + i)) from))
    c.loop-lane.invariant
    c.update_lane.ensures

use Rattle.std.proofs.Common.{◌≡◌, ◌+◌, ◌<◌, length, get_or, ap, ◌∙◌, arith}
use Rattle.shape.specs.Shapes.{start}
use Rattle.shape.specs.Lanes.{lane_for}
use Rattle.shape.proofs.Blocks.{band_fits, lane_below}
use Rattle.shape.proofs.Cells.{column_more}
use Rattle.index.specs.Routes.{became}
use Rattle.index.specs.Calls.{read}
use Rattle.index.proofs.lanes.route_lanes.Goals as goal

pub route_part-requires : goal.route_part-requires
route_part-requires g c =
    let x = c.args.x in
    let y = c.args.y in
    let xl = length c.args.xs.now in
    let yl = length c.args.ys.now in
    let lane = c.loop-lane.lane in
    let l = c.loop-lane-test.true in
    let which = c.lane_for.ensures l c.requires.target.fits.few_lanes c.requires.source.fits.few_lanes in
    let below : c.lane_for.result < x.of.lanes = rw which (lane_below lane x.of.lanes y.of.lanes c.requires.source.fits.some l) in
    let from = c.start-from.ensures xl c.requires.source below in
    let to = c.start.ensures yl c.requires.target l in
    let s = band_fits x.of xl c.lane_for.result x.col 1 c.requires.source.fits below (omega (arith, c.requires.source.within)) in
    let t = band_fits y.of yl lane y.col 1 c.requires.target.fits l (omega (arith, c.requires.target.within)) in
    record { ready = c.requires.ready; source = omega arith; target = omega arith }

pub loop-lane-preserved : goal.loop-lane-preserved
loop-lane-preserved g c =
    let route = c.args.route in
    let list = c.args.list.now in
    let x = c.args.x in
    let y = c.args.y in
    let xs = c.args.xs.now in
    let old = c.args.ys.now in
    let cur = c.loop-lane.ys in
    let lane = c.loop-lane.lane in
    let l = c.loop-lane-test.true in
    let which = c.lane_for.ensures l c.requires.target.fits.few_lanes c.requires.source.fits.few_lanes in
    let below : c.lane_for.result < x.of.lanes = rw which (lane_below lane x.of.lanes y.of.lanes c.requires.source.fits.some l) in
    let from : c.start-from.result ≡ start x.of (lane_for lane x.of.lanes y.of.lanes) x.col =
    c.start-from.ensures (length xs) c.requires.source below ∙ ap (λ b. start x.of b x.col) which in
    let to = c.start.ensures (length old) c.requires.target l in
    column_more y.of lane y.col c.start.result _ _ old cur c.route_part.new.ys to c.requires.target.within
    (λ k v w q d.
    let as_read = ap (λ a. became route list (λ i. get_or xs (a + i) d) (get_or cur (c.start.result + k) d) k) from in
    let as-held = ap (λ a. get_or cur (a + k) d) to ∙ c.loop-lane.invariant.kept lane y.col k d w (λ z. omega arith) in
    q d ∙ as_read ∙ ap (λ z. became route list (read x xs y lane d) z k) as-held)
    c.loop-lane.invariant
    c.route_part.ensures

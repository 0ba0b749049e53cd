use Rattle.std.proofs.Common.{◌≡◌, ◌+◌, ◌*◌, ◌<◌, length, get_or, refl, ap, ◌∙◌, arith}
use Rattle.shape.specs.Shapes.{start}
use Rattle.shape.specs.Lanes.{lane_for}
use Rattle.shape.proofs.Blocks.{lane_below}
use Rattle.shape.proofs.Passes.{not_large}
use Rattle.index.specs.Tables.{lane_cells}
use Rattle.index.proofs.Firsts.{lane_fits, firsts_more}
use Rattle.index.proofs.cells.gather_lanes.Goals as goal

pub route_part-requires : goal.route_part-requires
route_part-requires g c =
    let x = c.args.x in
    let t = c.args.t in
    let xl = length c.args.xs.now in
    let tl = length c.args.ts.now in
    let lane = c.loop-lane.lane in
    let l = c.loop-lane-test.true in
    let reads = rw c.band-source.ensures at c.start-from.ensures in
    let writes = rw c.band-target.ensures at c.start.ensures in
    let which = c.lane_for.ensures l c.requires.target.few_lanes c.requires.source.few_lanes in
    let below : c.lane_for.result < x.lanes = rw which (lane_below lane x.lanes t.lanes c.requires.source.some l) in
    let many : c.lane_cells.result ≡ lane_cells x = c.lane_cells.ensures (not_large x xl c.requires.source) in
    let from = reads xl c.requires.source (omega arith) below in
    let to = writes tl c.requires.target (omega arith) l in
    let first = lane_fits x xl c.lane_for.result c.requires.source below in
    let second = lane_fits t tl lane c.requires.target l in
    record { ready = (refl, rw many c.requires.inside); source = omega arith; target = omega (arith, c.requires.short) }

pub loop-lane-preserved : goal.loop-lane-preserved
loop-lane-preserved g c =
    let list = c.args.list.now in
    let x = c.args.x in
    let xs = c.args.xs.now in
    let t = c.args.t in
    let old = c.args.ts.now in
    let cur = c.loop-lane.ts in
    let lane = c.loop-lane.lane in
    let l = c.loop-lane-test.true in
    let reads = rw c.band-source.ensures at c.start-from.ensures in
    let writes = rw c.band-target.ensures at c.start.ensures in
    let which = c.lane_for.ensures l c.requires.target.few_lanes c.requires.source.few_lanes in
    let below : c.lane_for.result < x.lanes = rw which (lane_below lane x.lanes t.lanes c.requires.source.some l) in
    let from : c.start-from.result ≡ start x (lane_for lane x.lanes t.lanes) 0 =
    reads (length xs) c.requires.source (omega arith) below ∙ ap (λ b. start x b 0) which in
    let to : c.start.result ≡ start t lane 0 = writes (length old) c.requires.target (omega arith) l in
    firsts_more t (length list) lane c.start.result _ _ old cur c.route_part.new.ys to c.requires.short
    (λ j i v w h q d. q d ∙ ap (λ a. get_or xs (a + get_or list (j * t.rows + i) 0) d) from)
    c.loop-lane.invariant
    c.route_part.ensures

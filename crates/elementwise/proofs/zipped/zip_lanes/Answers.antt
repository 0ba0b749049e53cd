use Rattle.std.proofs.Common.{◌≡◌, ◌+◌, ◌-◌, ◌*◌, ◌<◌, ◌≤◌, length, get_or, sym, refl, ap, ◌∙◌, arith}
use Rattle.shape.specs.Shapes.{start, cell}
use Rattle.shape.specs.Lanes.{lane_for}
use Rattle.shape.proofs.Blocks.{band_fits}
use Rattle.shape.proofs.Cells.{lanes_more}
use Rattle.elementwise.proofs.Bands.{read_below, reads_from, place_in, run_size}
use Rattle.elementwise.proofs.zipped.zip_lanes.Goals as goal

pub zip_part-requires : goal.zip_part-requires
zip_part-requires g c =
    let x = c.args.x in
    let y = c.args.y in
    let xl = length c.args.xs.now in
    let yl = length c.args.ys.now in
    let lane = c.loop-lane.lane in
    let l = c.loop-lane-test.true in
    let read = c.lane_for.result in
    let below : read < x.of.lanes = read_below x xl y yl c.requires lane read c.start-from.result l c.lane_for.ensures c.start-from.ensures in
    let from : c.start-from.result ≡ start x.of read x.first = c.start-from.ensures xl c.requires.source (omega arith) below in
    let to : c.start.result ≡ start y.of lane y.first = c.start.ensures yl c.requires.target (omega arith) l in
    let s : start x.of read x.first + x.count * x.of.rows ≤ xl = band_fits x.of xl read x.first x.count c.requires.source below c.requires.source_within in
    let t : start y.of lane y.first + y.count * y.of.rows ≤ yl = band_fits y.of yl lane y.first y.count c.requires.target l c.requires.target_within in
    let size = run_size x xl y yl c.requires in
    record { source = omega arith; target = omega arith }

pub loop-lane-preserved : goal.loop-lane-preserved
loop-lane-preserved g c =
    let x = c.args.x in
    let y = c.args.y in
    let xs = c.args.xs.now in
    let old = c.args.ys.now in
    let cur = c.loop-lane.ys in
    let lane = c.loop-lane.lane in
    let l = c.loop-lane-test.true in
    let read = c.lane_for.result in
    let from = reads_from x (length xs) y (length old) c.requires lane read c.start-from.result l c.lane_for.ensures c.start-from.ensures in
    let to : c.start.result ≡ start y.of lane y.first = c.start.ensures (length old) c.requires.target (omega arith) l in
    lanes_more y.of lane y.first y.count c.start.result _ _ old cur c.zip_part.new.ys to c.requires.target_within
    (λ j i v w h k q d.
    let source : c.start-from.result + ((j - y.first) * y.of.rows + i) ≡ cell x.of (lane_for lane x.of.lanes y.of.lanes) (x.first + (j - y.first)) i =
    place_in x.of (lane_for lane x.of.lanes y.of.lanes) x.first y.first j i y.of.rows c.start-from.result from c.requires.rows in
    let same : y.first + (j - y.first) ≡ j = omega arith in
    let target : c.start.result + ((j - y.first) * y.of.rows + i) ≡ cell y.of lane j i =
    place_in y.of lane y.first y.first j i y.of.rows c.start.result to refl ∙ ap (λ z. cell y.of lane z i) same in
    let read-x = ap (λ z. get_or xs z d) source in
    let read-y = ap (λ z. get_or cur z d) target ∙ c.loop-lane.invariant.kept lane j i d w (λ z. omega arith) in
    rw (sym read-x, sym read-y) (q d))
    c.loop-lane.invariant
    c.zip_part.ensures

use Rattle.std.proofs.Common.{◌≡◌, ◌+◌, ◌-◌, ◌*◌, ◌≤◌, length, get_or, sym, refl, ap, ◌∙◌, arith}
use Rattle.shape.specs.Shapes.{start, cell}
use Rattle.shape.proofs.Blocks.{band_fits}
use Rattle.shape.proofs.Cells.{lanes_more}
use Rattle.elementwise.proofs.Bands.{place_in}
use Rattle.elementwise.proofs.revised.revise_lanes.Goals as goal

pub revise_part-requires : goal.revise_part-requires
revise_part-requires g c =
    let y = c.args.y in
    let yl = length c.args.ys.now in
    let lane = c.loop-lane.lane in
    let l = c.loop-lane-test.true in
    let to : c.start.result ≡ start y.of lane y.first = c.start.ensures yl c.requires.target (omega arith) l in
    let t : start y.of lane y.first + y.count * y.of.rows ≤ yl = band_fits y.of yl lane y.first y.count c.requires.target l c.requires.within in
    omega arith

pub loop-lane-preserved : goal.loop-lane-preserved
loop-lane-preserved g c =
    let y = c.args.y in
    let old = c.args.ys.now in
    let cur = c.loop-lane.ys in
    let lane = c.loop-lane.lane in
    let l = c.loop-lane-test.true in
    let to : c.start.result ≡ start y.of lane y.first = c.start.ensures (length old) c.requires.target (omega arith) l in
    lanes_more y.of lane y.first y.count c.start.result _ _ old cur c.revise_part.new.ys to c.requires.within
    (λ j i v w h k q d.
    let same : y.first + (j - y.first) ≡ j = omega arith in
    let target : c.start.result + ((j - y.first) * y.of.rows + i) ≡ cell y.of lane j i =
    place_in y.of lane y.first y.first j i y.of.rows c.start.result to refl ∙ ap (λ z. cell y.of lane z i) same in
    let read-y = ap (λ z. get_or cur z d) target ∙ c.loop-lane.invariant.kept lane j i d w (λ z. omega arith) in
    rw (sym read-y) (q d))
    c.loop-lane.invariant
    c.revise_part.ensures

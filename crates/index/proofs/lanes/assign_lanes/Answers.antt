use Rattle.std.proofs.Common.{◌+◌, length, get_or, ap, ◌∙◌, arith}
use Rattle.shape.proofs.Blocks.{band_fits}
use Rattle.shape.proofs.Cells.{column_more, column_all}
use Rattle.index.specs.Indices.{settled}
use Rattle.index.proofs.lanes.assign_lanes.Goals as goal

pub assign_part-requires-clause-target : goal.assign_part-requires-clause-target
assign_part-requires-clause-target g c =
    let y = c.args.y in
    let yl = length c.args.ys.now in
    let l = c.loop-lane-test.true in
    let to = c.start.ensures yl c.requires.target l in
    let t = band_fits y.of yl c.loop-lane.lane y.col 1 c.requires.target.fits l (omega (arith, c.requires.target.within)) in
    omega arith

pub loop-lane-preserved : goal.loop-lane-preserved
loop-lane-preserved g c =
    let list = c.args.list.now in
    let y = c.args.y in
    let old = c.args.ys.now in
    let cur = c.loop-lane.ys in
    let lane = c.loop-lane.lane in
    let to = c.start.ensures (length old) c.requires.target c.loop-lane-test.true in
    column_more y.of lane y.col c.start.result _ _ old cur c.assign_part.new.ys to c.requires.target.within
    (λ k v w q d.
    let as-held = ap (λ a. get_or cur (a + k) d) to ∙ c.loop-lane.invariant.kept lane y.col k d w (λ z. omega arith) in
    q d ∙ ap (λ z. settled list 0 k (λ i. c.args.value) z) as-held)
    c.loop-lane.invariant
    c.assign_part.ensures

pub returns : goal.returns
returns g c = column_all _ _ _ _ _ _ c.loop-lane-test.false c.loop-lane.invariant

use Rattle.std.proofs.Common.{◌≡◌, ◌+◌, ◌<◌, length, get_or, ap, ◌∙◌, arith}
use Rattle.std.proofs.lemmas.List.{get_or_read}
use Rattle.shape.specs.Shapes.{start, cell, Lawful}
use Rattle.shape.specs.Lanes.{lane_for}
use Rattle.shape.specs.declared.operand.Column.{Column}
use Rattle.shape.proofs.Blocks.{band_fits}
use Rattle.shape.proofs.Broadcast.{reads_from, reads_within}
use Rattle.shape.proofs.Cells.{column_more}
use Rattle.vector.specs.Rows.{blend}
use Rattle.vector.proofs.batch.batched_lanes.Goals as goal

-- the one row of a lane of the factors lies in their memory
factor_within : (f : Column) (len lane a : _) → Lawful f len → f.of.rows ≡ 1 → lane < f.of.lanes → ((l : _) → Lawful f l → lane < f.of.lanes → a ≡ start f.of lane f.col) → a < len
factor_within f len lane a law one l starts =
    let e = starts len law l in
    let t = band_fits f.of len lane f.col 1 law.fits l (omega (arith, law.within)) in
    omega arith

pub offset_bounds-fs-start : goal.offset_bounds-fs-start
offset_bounds-fs-start g c =
    let below : c.start.result < length c.args.fs.now =
    factor_within c.args.factors (length c.args.fs.now) c.loop-lane.lane c.start.result c.requires.factors c.requires.one (omega (arith, c.requires.each)) c.start.ensures in
    omega arith

pub bounds-fs-start : goal.bounds-fs-start
bounds-fs-start g c = factor_within c.args.factors (length c.args.fs.now) c.loop-lane.lane c.start.result c.requires.factors c.requires.one (omega (arith, c.requires.each)) c.start.ensures

pub axpy_part-requires : goal.axpy_part-requires
axpy_part-requires g c =
    let y = c.args.y in
    let yl = length c.args.ys.now in
    let lane = c.loop-lane.lane in
    let l = c.loop-lane-test.true in
    let to = c.start-in-loop-lane.ensures yl c.requires.target l in
    let t = band_fits y.of yl lane y.col 1 c.requires.target.fits l (omega (arith, c.requires.target.within)) in
    let s = reads_within c.args.x (length c.args.xs.now) y.of.lanes lane c.lane_for.result c.start-from.result c.requires.source l c.requires.target.fits.few_lanes c.lane_for.ensures c.start-from.ensures in
    record { source = omega (arith, c.requires.rows); target = omega arith; few = c.requires.target.fits.few_rows }

pub loop-lane-preserved : goal.loop-lane-preserved
loop-lane-preserved g c =
    let s = g.S.Scalar in
    let f = c.args.factors in
    let fs = c.args.fs.now in
    let x = c.args.x in
    let xs = c.args.xs.now in
    let y = c.args.y in
    let old = c.args.ys.now in
    let cur = c.loop-lane.ys in
    let lane = c.loop-lane.lane in
    let l = c.loop-lane-test.true in
    let beta = s.means c.args.b.0 in
    let within : c.start.result < length fs = factor_within f (length fs) lane c.start.result c.requires.factors c.requires.one (omega (arith, c.requires.each)) c.start.ensures in
    let at-factor = c.start.ensures (length fs) c.requires.factors (omega (arith, c.requires.each)) in
    let from = reads_from x (length xs) y.of.lanes lane c.lane_for.result c.start-from.result c.requires.source l c.requires.target.fits.few_lanes c.lane_for.ensures c.start-from.ensures in
    let to = c.start-in-loop-lane.ensures (length old) c.requires.target l in
    column_more y.of lane y.col c.start-in-loop-lane.result _ _ old cur c.axpy_part.new.ys to c.requires.target.within
    (λ i v w q d.
    let place : c.start.result ≡ cell f.of lane f.col 0 = at-factor ∙ omega arith in
    let factor = get_or_read fs c.start.result c.index-fs-start.result within c.index-fs-start.is d ∙ ap (λ z. get_or fs z d) place in
    let source = ap (λ a. get_or xs (a + i) d) from in
    let target = ap (λ a. get_or cur (a + i) d) to ∙ c.loop-lane.invariant.kept lane y.col i d w (λ z. omega arith) in
    q d
    ∙ ap (λ z. blend s.ops (s.means z) (s.means (get_or xs (c.start-from.result + i) d)) beta (s.means (get_or cur (c.start-in-loop-lane.result + i) d))) factor
    ∙ ap (λ z. blend s.ops (s.means (get_or fs (cell f.of lane f.col 0) d)) (s.means z) beta (s.means (get_or cur (c.start-in-loop-lane.result + i) d))) source
    ∙ ap (λ z. blend s.ops (s.means (get_or fs (cell f.of lane f.col 0) d)) (s.means (get_or xs (cell x.of (lane_for lane x.of.lanes y.of.lanes) x.col i) d)) beta (s.means z)) target)
    c.loop-lane.invariant
    c.axpy_part.ensures

use Rattle.std.proofs.Common.{◌+◌, ◌<◌, length, get_or, ap, ◌∙◌, arith}
use Rattle.shape.proofs.Blocks.{band_fits}
use Rattle.shape.proofs.Cells.{column_more}
use Rattle.index.specs.Transposes.{lane}
use Rattle.index.proofs.Backs.{scattered_like}
use Rattle.index.proofs.transposes.scatter_back_lanes.Goals as goal

pub scatter_back_part-requires : goal.scatter_back_part-requires
scatter_back_part-requires g c =
    let p = c.args.p in
    let q = c.args.q in
    let pl = length c.args.ps.now in
    let ql = length c.args.qs.now in
    let b = c.loop-lane.lane in
    let l : b < q.of.lanes = c.loop-lane-test.true in
    let k : b < p.of.lanes = omega (arith, c.requires.lanes) in
    let from = c.start.ensures pl c.requires.first k in
    let to = c.start-in-loop-lane.ensures ql c.requires.second l in
    let s = band_fits p.of pl b p.col 1 c.requires.first.fits k (omega (arith, c.requires.first.within)) in
    let t = band_fits q.of ql b q.col 1 c.requires.second.fits l (omega (arith, c.requires.second.within)) in
    record { long = c.requires.long; inside = c.requires.inside; first = omega arith; second = omega arith }

pub loop-lane-preserved : goal.loop-lane-preserved
loop-lane-preserved g c =
    let s = g.S.Scalar in
    let p = c.args.p in
    let q = c.args.q in
    let ps = c.args.ps.now in
    let qs = c.args.qs.now in
    let ps' = c.loop-lane.ps in
    let qs' = c.loop-lane.qs in
    let b = c.loop-lane.lane in
    let l : b < q.of.lanes = c.loop-lane-test.true in
    let k : b < p.of.lanes = omega (arith, c.requires.lanes) in
    let from = c.start.ensures (length ps) c.requires.first k in
    let to = c.start-in-loop-lane.ensures (length qs) c.requires.second l in
    let like = λ (d : g.row.S.Denot).
    scattered_like s.ops c.args.list.now 0 p.of.rows q.of.rows _ (lane s.means p ps b d) _ (lane s.means q qs b d) c.requires.inside (omega (arith, c.requires.long))
    (λ j h. ap (λ a. s.means (get_or ps' (a + j) d)) from ∙ ap s.means (c.loop-lane.invariant.0.kept b p.col j d (record { lane = k; col = c.requires.first.within; row = h }) (λ z. omega arith)))
    (λ j h. ap (λ a. s.means (get_or qs' (a + j) d)) to ∙ ap s.means (c.loop-lane.invariant.1.kept b q.col j d (record { lane = l; col = c.requires.second.within; row = h }) (λ z. omega arith))) in (
      column_more p.of b p.col c.start.result _ _ ps ps' c.scatter_back_part.new.ps from c.requires.first.within
          (λ i v w m d. m d ∙ (like d).first i w.row) c.loop-lane.invariant.0 c.scatter_back_part.ensures.first,
      column_more q.of b q.col c.start-in-loop-lane.result _ _ qs qs' c.scatter_back_part.new.qs to c.requires.second.within
          (λ i v w m d. m d ∙ (like d).second i w.row) c.loop-lane.invariant.1 c.scatter_back_part.ensures.second,
    )

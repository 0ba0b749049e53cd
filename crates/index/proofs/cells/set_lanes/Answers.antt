use Rattle.std.proofs.Common.{◌≡◌, ℕ, ◌+◌, ◌-◌, ◌*◌, List, length, get_or, ap, ◌∙◌, subst, mul_comm, arith}
use Rattle.shape.specs.Shapes.{start, cell}
use Rattle.shape.specs.Lanes.{lane_for}
use Rattle.shape.specs.Changes.{RunChanged}
use Rattle.shape.proofs.Broadcast.{reads_from, reads_within}
use Rattle.shape.proofs.Cells.{lanes_more, lanes_all, changed_as}
use Rattle.shape.proofs.Passes.{not_large}
use Rattle.index.specs.Indices.{settled}
use Rattle.index.specs.Tables.{lane_cells, paired}
use Rattle.index.proofs.CellsTested.{pairs_long}
use Rattle.index.proofs.Firsts.{lane_fits, lane_place}
use Rattle.index.proofs.cells.set_lanes.Goals as goal

pub set_part-requires : goal.set_part-requires
set_part-requires g c =
    let dst = c.args.dst.now in
    let src = c.args.src.now in
    let v = c.args.v in
    let t = c.args.t in
    let tl = length c.args.ts.now in
    let lane = c.loop-lane.lane in
    let l = c.loop-lane-test.true in
    let writes = rw c.band-target.ensures at c.start.ensures in
    let cut = c.with_partner-places.ensures in
    let many : c.lane_cells.result ≡ lane_cells t = c.lane_cells.ensures (not_large t tl c.requires.target) in
    let to = writes tl c.requires.target (omega arith) l in
    let fit = lane_fits t tl lane c.requires.target l in
    record {
      pairs = rw cut (pairs_long dst src);
      inside = rw (cut, many) c.requires.inside;
      rows = rw cut c.requires.rows;
      source = reads_within v (length c.args.vs.now) t.lanes lane c.lane_for.result c.start-from.result c.requires.source l c.requires.target.few_lanes c.lane_for.ensures c.start-from.ensures;
      target = omega arith;
    }

pub loop-lane-preserved : goal.loop-lane-preserved
loop-lane-preserved g c =
    let dst = c.args.dst.now in
    let src = c.args.src.now in
    let v = c.args.v in
    let vs = c.args.vs.now in
    let t = c.args.t in
    let old = c.args.ts.now in
    let cur = c.loop-lane.ts in
    let lane = c.loop-lane.lane in
    let l = c.loop-lane-test.true in
    let writes = rw c.band-target.ensures at c.start.ensures in
    let places = c.with_partner-places.result.now in
    let a = c.start.result in
    let many : c.lane_cells.result ≡ t.cols * t.rows = c.lane_cells.ensures (not_large t (length old) c.requires.target) ∙ mul_comm t.rows t.cols in
    let from = reads_from v (length vs) t.lanes lane c.lane_for.result c.start-from.result c.requires.source l c.requires.target.few_lanes c.lane_for.ensures c.start-from.ensures in
    let to : a ≡ start t lane 0 = writes (length old) c.requires.target (omega arith) l in
    lanes_more t lane 0 t.cols a _
    (λ k w. (d : g.row.S.Denot) → w ≡ settled places 0 k (λ p. get_or vs (c.start-from.result + get_or src p 0) d) (get_or cur (a + k) d)) old cur c.set_part.new.ys to (omega arith)
    (λ j i w inside h below q d.
    let place : (j - 0) * t.rows + i ≡ j * t.rows + i = ap (λ z. z * t.rows + i) (omega arith) in
    let as-held = ap (λ z. get_or cur z d) (lane_place t lane j i a to) ∙ c.loop-lane.invariant.kept lane j i d inside (λ z. omega arith) in
    q d
    ∙ ap (λ z. settled places 0 z (λ p. get_or vs (c.start-from.result + get_or src p 0) d) (get_or cur (a + z) d)) place
    ∙ ap (λ (z : List ℕ). settled z 0 (j * t.rows + i) (λ p. get_or vs (c.start-from.result + get_or src p 0) d) (get_or cur (a + (j * t.rows + i)) d)) c.with_partner-places.ensures
    ∙ ap (λ z. settled (paired dst src) 0 (j * t.rows + i) (λ p. get_or vs (z + get_or src p 0) d) (get_or cur (a + (j * t.rows + i)) d)) from
    ∙ ap (λ z. settled (paired dst src) 0 (j * t.rows + i) (λ p. get_or vs (cell v.of (lane_for lane v.of.lanes t.lanes) v.col (get_or src p 0)) d) z) as-held)
    c.loop-lane.invariant
    (subst (λ (n : ℕ). RunChanged a n (λ k w. (d : g.row.S.Denot) → w ≡ settled places 0 k (λ p. get_or vs (c.start-from.result + get_or src p 0) d) (get_or cur (a + k) d)) cur c.set_part.new.ys) many c.set_part.ensures)

pub returns : goal.returns
returns g c =
    let t = c.args.t in
    changed_as t _ _ _ _ _ _ (λ b j i w h. tt) (λ b j i w h. (omega arith, omega (arith, w.col))) (λ b j i v w h q. q) (lanes_all t _ _ _ _ _ _ c.loop-lane-test.false c.loop-lane.invariant)

use Rattle.std.proofs.Common.{◌+◌, length, ap, ◌∙◌, arith}
use Rattle.scalar.specs.Sums.{at}
use Rattle.shape.proofs.Blocks.{band_fits}
use Rattle.shape.proofs.Broadcast.{reads_from, reads_within}
use Rattle.norm.proofs.Lent.{mean_same}
use Rattle.norm.proofs.norms.norm_lane.Goals as goal

pub norm_part-requires : goal.norm_part-requires
norm_part-requires g c =
    let x = c.args.x in
    let xl = length c.args.xs.now in
    let lane = c.args.lane in
    let few = c.requires.law.target.fits.few_lanes in
    let from = c.start.ensures xl c.requires.law.target c.requires.lane in
    let f = band_fits x.of xl lane x.col 1 c.requires.law.target.fits c.requires.lane (omega (arith, c.requires.law.target.within)) in
    let y = reads_within c.args.y (length c.args.ys.now) x.of.lanes lane c.lane_for.result c.start-y_from.result c.requires.law.second c.requires.lane few c.lane_for.ensures c.start-y_from.ensures in
    let a = reads_within c.args.atol (length c.args.atols.now) x.of.lanes lane c.lane_for-2.result c.start-atol_from.result c.requires.law.third c.requires.lane few c.lane_for-2.ensures c.start-atol_from.ensures in
    record { first = omega arith; second = omega (arith, c.requires.law.second_rows); third = omega (arith, c.requires.law.third_rows) }

pub returns : goal.returns
returns g c =
    let s = g.S.Ordered in
    let x = c.args.x in
    let lane = c.args.lane in
    let few = c.requires.law.target.fits.few_lanes in
    let from = c.start.ensures (length c.args.xs.now) c.requires.law.target c.requires.lane in
    let y = reads_from c.args.y (length c.args.ys.now) x.of.lanes lane c.lane_for.result c.start-y_from.result c.requires.law.second c.requires.lane few c.lane_for.ensures c.start-y_from.ensures in
    let a = reads_from c.args.atol (length c.args.atols.now) x.of.lanes lane c.lane_for-2.result c.start-atol_from.result c.requires.law.third c.requires.lane few c.lane_for-2.ensures c.start-atol_from.ensures in
    c.norm_part.ensures
    ∙ mean_same s.ops s.order x.of.rows _ _ _ _ (s.means c.args.rtol) _ _
    (λ i h. ap (λ z. at s.means s.ops c.args.xs.now (z + i)) from)
    (λ i h. ap (λ z. at s.means s.ops c.args.ys.now (z + i)) y)
    (λ i h. ap (λ z. at s.means s.ops c.args.atols.now (z + i)) a)

use Rattle.std.proofs.Common.{◌+◌, length, refl, ap, arith}
use Rattle.scalar.specs.Sums.{at}
use Rattle.shape.proofs.Blocks.{band_fits}
use Rattle.shape.proofs.Broadcast.{reads_from, reads_within}
use Rattle.norm.proofs.Signs.{says_at}
use Rattle.norm.proofs.roots.root_lane.Goals as goal

pub root_part-requires : goal.root_part-requires
root_part-requires g c =
    let g0 = c.args.g0 in
    let len = length c.args.g0s.now in
    let few = c.requires.law.target.fits.few_lanes in
    let from = c.start.ensures len c.requires.law.target c.requires.lane in
    let f = band_fits g0.of len c.args.lane g0.col 1 c.requires.law.target.fits c.requires.lane (omega (arith, c.requires.law.target.within)) in
    let b = reads_within c.args.g1 (length c.args.g1s.now) g0.of.lanes c.args.lane c.lane_for.result c.start-from1.result c.requires.law.source c.requires.lane few c.lane_for.ensures c.start-from1.ensures in
    record { first = omega arith; second = omega (arith, c.requires.law.rows); few = c.requires.law.target.fits.few_rows }

pub returns : goal.returns
returns g c =
    let s = g.S.Ordered in
    let g0 = c.args.g0 in
    let few = c.requires.law.target.fits.few_lanes in
    let from = c.start.ensures (length c.args.g0s.now) c.requires.law.target c.requires.lane in
    let b = reads_from c.args.g1 (length c.args.g1s.now) g0.of.lanes c.args.lane c.lane_for.result c.start-from1.result c.requires.law.source c.requires.lane few c.lane_for.ensures c.start-from1.ensures in
    says_at s.means s.ops s.order _ _ _ _ _ _ _ _ _ _ refl
    (λ i h. ap (λ z. at s.means s.ops c.args.g0s.now (z + i)) from)
    (λ i h. ap (λ z. at s.means s.ops c.args.g1s.now (z + i)) b) refl c.root_part.ensures

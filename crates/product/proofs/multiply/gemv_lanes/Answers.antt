use Rattle.std.proofs.Common.{subst}
use Rattle.shape.specs.declared.operand.Band.{Band}
use Rattle.product.specs.Rows.{summed}
use Rattle.product.specs.Results.{broadcast, Applied}
use Rattle.product.proofs.Products.{applied_linear}
use Rattle.product.proofs.multiply.gemv_lanes.Goals as goal

pub returns-clause-exact : goal.returns-clause-exact
returns-clause-exact g c = λ e.
    let s = g.S.Scalar in
    let x = broadcast s.means s.ops c.args.x c.args.xs.now c.args.y.of.lanes in
    let done = subst (λ (q : Band). Applied s.means s.ops (summed s.ops) (s.means c.args.a.0) q.of c.args.ts.now q.first q.count x (s.means c.args.b.0) c.args.y c.args.ys.now c.band_lanes.new.ys)
    c.band.ensures c.band_lanes.ensures in
    applied_linear s.means s.ops _ _ _ _ _ _ _ _ _ x (g.met.S.Scalar.ring e) done

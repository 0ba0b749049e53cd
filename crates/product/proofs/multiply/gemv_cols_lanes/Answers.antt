use Rattle.product.proofs.Products.{applied_linear, applied_shared}
use Rattle.product.proofs.multiply.gemv_cols_lanes.Goals as goal

pub returns : goal.returns
returns g c =
    let s = g.S.Scalar in
    let done = applied_shared s.means s.ops (s.means c.args.a.0) (s.means c.args.b.0) c.args.t c.args.ts.now c.args.start c.args.n c.args.y c.args.ys.now c.band_lanes.new.ys
    c.args.x.now c.vector.result c.vector.ensures c.requires.enough c.band_lanes.ensures in
    record { sums = done; exact = λ e. applied_linear s.means s.ops _ _ _ _ _ _ _ _ _ _ (g.met.S.Scalar.ring e) done }

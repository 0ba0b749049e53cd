use Rattle.product.proofs.Updates.{gained_front}
use Rattle.product.proofs.outer.ger_cols_lanes.Goals as goal

pub returns : goal.returns
returns g c =
    let s = g.S.Scalar in
    gained_front s.means s.ops (s.means c.args.a.0) c.args.x.now c.args.p c.args.ps.now c.args.t c.args.start c.args.n c.args.ts.now c.spread_lanes.new.ts
    c.requires.enough c.spread_lanes.ensures

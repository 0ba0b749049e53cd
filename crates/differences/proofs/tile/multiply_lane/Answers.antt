use Rattle.std.proofs.Common.{arith}
use Rattle.shape.proofs.Cells.{changed_as}
use Rattle.differences.specs.declared.tile.Tile.{Tile}
use Rattle.differences.proofs.MulColsLaws.{tile_more}
use Rattle.differences.proofs.tile.multiply_lane.Goals as goal

pub loop-row-preserved : goal.loop-row-preserved
loop-row-preserved g c =
    let s = g.S.Scalar in
    let tile : Tile = record { lane = c.args.lane; row = c.loop-row.row; height = c.min-height.result } in
    changed_as _ _ _ _ _ _ _ (λ b j i w h. (h.0, omega arith, h.2)) (λ b j i w h. (h.0, omega (arith, w.row), h.2)) (λ b j i v w h q. q)
    (tile_more s.means s.ops c.args.t c.args.m c.args.numbers.now tile c.args.ts.now c.loop-row.ts c.multiply_tile.new.ts
    c.requires.law.fits c.loop-row.auto.ts c.requires.law.within c.loop-row.invariant c.multiply_tile.ensures)

pub returns-2 : goal.returns-2
returns-2 g c =
    let s = g.S.Scalar in
    let tile : Tile = record { lane = c.args.lane; row = c.loop-row.row; height = c.min-height.result } in
    changed_as _ _ _ _ _ _ _ (λ b j i w h. (h.0, omega arith, omega arith)) (λ b j i w h. (h.0, omega (arith, w.row), omega arith)) (λ b j i v w h q. q)
    (tile_more s.means s.ops c.args.t c.args.m c.args.numbers.now tile c.args.ts.now c.loop-row.ts c.multiply_tile.new.ts
    c.requires.law.fits c.loop-row.auto.ts c.requires.law.within c.loop-row.invariant c.multiply_tile.ensures)

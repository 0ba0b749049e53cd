use Rattle.std.proofs.Common.{◌≡◌, ◌+◌, ◌-◌, ◌*◌, map, length, get_or, sym, ap, ◌∙◌, arith}
use Rattle.scalar.proofs.Stored.{at_same}
use Rattle.shape.specs.Shapes.{cell}
use Rattle.shape.proofs.Blocks.{cell_fits, block_fits}
use Rattle.shape.proofs.Cells.{changed_as}
use Rattle.differences.specs.Matrices.{entry_of}
use Rattle.product.specs.Results.{row_of}
use Rattle.differences.specs.Tiles.{InTile}
use Rattle.product.specs.Results.{run_row}
use Rattle.differences.proofs.RowLaws.{multiplied_cong}
use Rattle.differences.proofs.tile.multiply_tile.Goals as goal

pub returns : goal.returns
returns g c =
    let s = g.S.Scalar in
    let t = c.args.t in
    let tile = c.args.tile in
    let k = c.args.m.size in
    let old = c.args.ts.now in
    let work = c.stage.new.work in
    changed_as t (InTile tile k) (InTile tile k) _ _ old c.write_tile.new.ts
    (λ b j i w h. h) (λ b j i w h. h)
    (λ b j i v w h q.
    q ∙ multiplied_cong s.ops (run_row s.means s.ops work tile.height (i - tile.row)) (row_of s.means s.ops t old b i) k (entry_of s.ops c.args.m (map s.means c.args.numbers.now)) j h.3
    (λ l n.
    let back : tile.row + (i - tile.row) ≡ i = omega arith in
    let fits = cell_fits t (length old) b l i c.requires.law.fits (record { lane = w.lane; col = omega arith; row = w.row }) in
    let block = block_fits l k tile.height n in
    at_same s.means s.ops work old (l * tile.height + (i - tile.row)) (cell t b l i) (omega (arith, c.stage.auto.work)) fits
    (λ d.
    c.stage.ensures l (i - tile.row) d n (omega arith)
    ∙ ap (λ z. get_or old (cell t tile.lane l z) d) back
    ∙ ap (λ z. get_or old (cell t z l i) d) (sym h.0))))
    c.write_tile.ensures

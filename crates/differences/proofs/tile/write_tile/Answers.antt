use Rattle.std.proofs.Common.{ℕ, ◌+◌, ◌-◌, sym, ap, ◌∙◌, inl, inr, arith}
use Rattle.std.proofs.lemmas.Bool.{cases_eq}
use Rattle.shape.proofs.Cells.{changed_more}
use Rattle.differences.specs.Tiles.{InTile, staged_product}
use Rattle.differences.proofs.Pieces.{InPiece, piece_changed}
use Rattle.differences.proofs.tile.write_tile.Goals as goal

pub loop-j-preserved : goal.loop-j-preserved
loop-j-preserved g c =
    let s = g.S.Scalar in
    let t = c.args.t in
    let tile = c.args.tile in
    let n = c.loop-j.j in
    let new = λ (j r : ℕ). staged_product s.means s.ops c.args.staged.now tile.height c.args.m c.args.numbers.now j r in
    changed_more t (InTile tile n) (InPiece tile.lane n tile.row tile.height) (InTile tile (n + 1)) _ _ c.args.ts.now c.loop-j.ts c.write_part.new.ts
    (λ b j i w h. elim (cases_eq j n) [ inl e ↦ inl (h.0, e, h.1, h.2) | inr ne ↦ inr ((λ x. ne x.1), (h.0, h.1, h.2, omega arith)) ])
    (λ b j i h. (h.0, h.1, h.2, omega arith))
    (λ b j i w h. (h.0, h.2, h.3, omega arith))
    (λ b j i v w h q. q ∙ ap (λ z. new z (i - tile.row)) (sym h.1))
    c.loop-j.invariant
    (piece_changed t tile.lane n tile.row tile.height c.start.result _ c.loop-j.ts c.write_part.new.ts c.start.ensures c.requires.tile.rows (omega arith) c.write_part.ensures)

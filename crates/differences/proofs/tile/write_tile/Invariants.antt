use Rattle.std.proofs.Common.{◌≡◌, ◌-◌}
use Rattle.shape.specs.Changes.{Changed}
use Rattle.differences.specs.Tiles.{InTile, staged_product}
use Rattle.differences.proofs.tile.write_tile.Given as goal

abbrev pub invariant-loop-j : goal.invariant-loop-j
invariant-loop-j g l =
    let s = g.S.Scalar in
    Changed l.t (InTile l.tile l.j) (λ b j i v. s.means v ≡ staged_product s.means s.ops l.staged l.tile.height l.m l.numbers j (i - l.tile.row)) l.initial.ts l.ts

use Rattle.std.proofs.Common.{◌≡◌, length}
use Rattle.shape.proofs.Parts.{Filled}
use Rattle.differences.specs.Tiles.{staged_product}
use Rattle.differences.proofs.tile.write_by_rows.Given as goal

abbrev pub invariant-loop-i : goal.invariant-loop-i
invariant-loop-i g l =
    let s = g.S.Scalar in
    Filled (λ k v. s.means v ≡ staged_product s.means s.ops l.staged (length l.initial.y) l.m l.numbers l.j k) l.initial.y l.y l.i

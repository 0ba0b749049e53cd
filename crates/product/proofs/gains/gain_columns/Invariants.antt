use Rattle.std.proofs.Common.{◌*◌, length}
use Rattle.shape.proofs.Parts.{Filled}
use Rattle.product.specs.Results.{in_block}
use Rattle.product.proofs.Updates.{gained}
use Rattle.product.proofs.gains.gain_columns.Given as goal

abbrev pub invariant-loop-l : goal.invariant-loop-l
invariant-loop-l g l =
    let s = g.S.Scalar in
    Filled (in_block s.means (length l.p) (gained s.means s.ops (s.means l.a.0) l.x l.p l.initial.y)) l.initial.y l.y (l.l * length l.p)

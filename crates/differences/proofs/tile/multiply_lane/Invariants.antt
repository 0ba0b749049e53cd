use Rattle.shape.specs.Changes.{Changed, meant}
use Rattle.differences.specs.MulCols.{cell_multiplied}
use Rattle.differences.specs.Tiles.{RowsAbove}
use Rattle.differences.proofs.tile.multiply_lane.Given as goal

abbrev pub invariant-loop-row : goal.invariant-loop-row
invariant-loop-row g l =
    let s = g.S.Scalar in
    Changed l.t (RowsAbove l.lane l.row l.m.size) (meant s.means (cell_multiplied s.means s.ops l.t l.m l.numbers l.initial.ts)) l.initial.ts l.ts

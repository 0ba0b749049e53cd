use Rattle.std.proofs.Common.{◌≡◌, ◌+◌, ◌*◌, length, get_or}
use Rattle.shape.specs.Changes.{Changed}
use Rattle.index.specs.Tables.{placed}
use Rattle.index.proofs.Firsts.{LanesFirst}
use Rattle.index.proofs.cells.gather_lanes.Given as goal

abbrev pub invariant-loop-lane : goal.invariant-loop-lane
invariant-loop-lane g l =
    Changed l.t (LanesFirst l.lane l.t.rows (length l.list)) (λ b j i v. (d : g.row.S.Denot) → v ≡ placed l.x l.xs l.t b (get_or l.list (j * l.t.rows + i) 0) d) l.initial.ts l.ts

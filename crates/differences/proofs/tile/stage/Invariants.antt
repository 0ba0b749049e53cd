use Rattle.differences.specs.Tiles.{Staged}
use Rattle.differences.proofs.tile.stage.Given as goal

abbrev pub invariant-loop-l : goal.invariant-loop-l
invariant-loop-l g l = Staged l.t l.ts l.tile l.l l.work

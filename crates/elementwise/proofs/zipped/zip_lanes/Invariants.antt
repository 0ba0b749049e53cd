use Rattle.shape.specs.Changes.{Changed, LanesBand}
use Rattle.elementwise.specs.Entrywise.{banded}
use Rattle.elementwise.proofs.zipped.zip_lanes.Given as goal

abbrev pub invariant-loop-lane : goal.invariant-loop-lane
invariant-loop-lane g l = Changed l.y.of (LanesBand l.lane l.y.first l.y.count) (banded (g.R.Rule.made l.rule) l.x l.xs l.y l.initial.ys) l.initial.ys l.ys

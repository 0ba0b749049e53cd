use Rattle.shape.specs.Changes.{Changed, LanesBand}
use Rattle.elementwise.specs.Entrywise.{revised}
use Rattle.elementwise.proofs.revised.revise_lanes.Given as goal

abbrev pub invariant-loop-lane : goal.invariant-loop-lane
invariant-loop-lane g l = Changed l.y.of (LanesBand l.lane l.y.first l.y.count) (revised (g.R.Revision.made l.rule) l.y.of l.initial.ys) l.initial.ys l.ys

use Rattle.std.proofs.Common.{◌≡◌, map, take}
use Rattle.exact.proofs.entry.fill.Given as goal

abbrev pub invariant-loop-place : goal.invariant-loop-place
invariant-loop-place g l = take l.place l.to ≡ map g.S.Entry.stored (take l.place l.values)

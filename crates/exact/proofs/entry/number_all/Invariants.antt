use Rattle.std.proofs.Common.{◌≡◌, map, take}
use Rattle.exact.proofs.entry.number_all.Given as goal

abbrev pub invariant-loop-place : goal.invariant-loop-place
invariant-loop-place g l = take l.place l.to ≡ map g.S.Entry.meant (take l.place l.scalars)

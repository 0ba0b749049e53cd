use Rattle.std.proofs.Common.{◌≡◌, ◌≤◌, length, drop}
use Rattle.scalar.specs.Sums.{at}
use Rattle.norm.specs.Roots.{Says}
use Rattle.norm.proofs.roots.root_run.Given as goal

abbrev pub invariant-loop-i : goal.invariant-loop-i
invariant-loop-i g l =
    let s = g.S.Ordered in
    let n = l.i-iterator.count in
    record {
      within : n ≤ length l.g0;
      g0_left : l.i-iterator.iter.a.rest.now ≡ drop n l.g0;
      g1_left : l.i-iterator.iter.b.rest.now ≡ drop n l.g1;
      so_far : Says s.means s.ops s.order (at s.means s.ops l.g0) (at s.means s.ops l.g1) n l.found l.part l.row;
    }

use Rattle.std.proofs.Common.{◌≡◌, ◌≤◌, length, drop}
use Rattle.scalar.specs.Sums.{at, sum}
use Rattle.norm.specs.Norms.{weighted}
use Rattle.norm.proofs.norms.norm_run.Given as goal

abbrev pub invariant-loop-x : goal.invariant-loop-x
invariant-loop-x g l =
    let s = g.S.Ordered in
    let n = length l.yielded in
    record {
      within : n ≤ length l.x;
      x_left : l.x-iterator.a.a.rest.now ≡ drop n l.x;
      y_left : l.x-iterator.a.b.rest.now ≡ drop n l.y;
      atol_left : l.x-iterator.b.rest.now ≡ drop n l.atol;
      so_far : s.means l.sum ≡ sum s.ops (λ i. weighted s.ops s.order (at s.means s.ops l.x i) (at s.means s.ops l.y i) (s.means l.rtol) (at s.means s.ops l.atol i)) n;
    }

use Rattle.std.proofs.Common.{◌≡◌, ◌≤◌, length, drop}
use Rattle.scalar.specs.Sums.{at, sum_from}
use Rattle.pairing.proofs.add_products.Given as goal

abbrev pub invariant-loop-x : goal.invariant-loop-x
invariant-loop-x g l =
    let s = g.S.Scalar in
    let n = length l.yielded in
    record {
      within : n ≤ length l.xs;
      x_left : l.x-iterator.a.rest.now ≡ drop n l.xs;
      y_left : l.x-iterator.b.rest.now ≡ drop n l.ys;
      so_far : s.means l.sum ≡ sum_from s.ops (s.means l.initial.sum) (λ i. s.ops.times (at s.means s.ops l.xs i) (at s.means s.ops l.ys i)) n;
    }

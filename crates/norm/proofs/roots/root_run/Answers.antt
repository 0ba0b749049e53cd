use Rattle.std.proofs.Common.{◌≡◌, true, false, pos, sym, refl, ap, ◌∙◌, arith, w32}
use Rattle.std.proofs.lemmas.Int.{to_z_pos}
use Rattle.scalar.specs.Sums.{at}
use Rattle.norm.specs.Roots.{fraction, replaces}
use Rattle.scalar.proofs.Stored.{next_is}
use Rattle.norm.proofs.Signs.{says_better, says_same}
use Rattle.norm.proofs.roots.root_run.Goals as goal

pub loop-i-preserved-then-is_better : goal.loop-i-preserved-then-is_better
loop-i-preserved-then-is_better g c =
    let s = g.S.Ordered in
    let n = c.loop-i.i-iterator.count in
    let so = c.loop-i.invariant in
    let next = c.in-Some.ensures.steps in
    let g0 = next_is s.means s.ops c.args.g0.now _ _ n c.in-Some.a.now so.g0_left next.0.0 in
    let g1 = next_is s.means s.ops c.args.g1.now _ _ n c.in-Some.b.now so.g1_left next.0.1 in
    let zero : c.is_zero-found.result ≡ s.ops.is_zero (at s.means s.ops c.args.g1.now n) = rw (sym g1.1) at c.is_zero-found.ensures in
    let better : replaces s.ops s.order (s.means c.loop-i.part) (at s.means s.ops c.args.g0.now n) (at s.means s.ops c.args.g1.now n) ≡ true = rw (g0.1, g1.1) (sym c.is_better.ensures ∙ c.if-is_better.true) in
    let part : s.means c.fraction_of-part.result ≡ fraction s.ops s.order (at s.means s.ops c.args.g0.now n) (at s.means s.ops c.args.g1.now n) = rw (g0.1, g1.1) c.fraction_of-part.ensures in
    rw next.2 (record {
      within = omega (arith, g0.2);
      g0_left = g0.0;
      g1_left = g1.0;
      so_far = says_better s.means s.ops s.order _ _ n _ _ _ so.so_far _ _ _ zero better part (to_z_pos w32 c.in-Some.i (omega (arith, next.1, g0.2)) ∙ ap pos next.1);
    })

pub loop-i-preserved : goal.loop-i-preserved
loop-i-preserved g c =
    let s = g.S.Ordered in
    let n = c.loop-i.i-iterator.count in
    let so = c.loop-i.invariant in
    let next = c.in-Some.ensures.steps in
    let g0 = next_is s.means s.ops c.args.g0.now _ _ n c.in-Some.a.now so.g0_left next.0.0 in
    let g1 = next_is s.means s.ops c.args.g1.now _ _ n c.in-Some.b.now so.g1_left next.0.1 in
    let zero : c.is_zero-found.result ≡ s.ops.is_zero (at s.means s.ops c.args.g1.now n) = rw (sym g1.1) at c.is_zero-found.ensures in
    let same : replaces s.ops s.order (s.means c.loop-i.part) (at s.means s.ops c.args.g0.now n) (at s.means s.ops c.args.g1.now n) ≡ false = rw (g0.1, g1.1) (sym c.is_better.ensures ∙ c.if-is_better.false) in
    rw next.2 (record {
      within = omega (arith, g0.2);
      g0_left = g0.0;
      g1_left = g1.0;
      so_far = says_same s.means s.ops s.order _ _ n _ _ _ so.so_far _ _ _ zero same refl refl;
    })

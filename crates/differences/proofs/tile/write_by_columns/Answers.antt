use Rattle.std.proofs.Common.{◌≡◌, length, map, rules, true, nat_lt, sym, ap₂, ◌∙◌, arith}
use Rattle.std.proofs.lemmas.Bool.{cond-true}
use Rattle.differences.specs.Matrices.{entry_of}
use Rattle.differences.proofs.Staging.{product_to, one_more}
use Rattle.differences.proofs.tile.write_by_columns.Goals as goal

pub loop-l-preserved : goal.loop-l-preserved
loop-l-preserved g c =
    let s = g.S.Scalar in
    one_more s.means s.ops c.args.staged.now c.loop-l.y c.gain_staged.new.y (length c.clear.new.y) c.loop-l.l
    (entry_of s.ops c.args.m (map s.means c.args.numbers.now) c.args.j) _ c.loop-l.auto.y c.gain_staged.auto.y c.entry.ensures c.loop-l.invariant c.gain_staged.ensures

pub returns : goal.returns
returns g c i d h =
    let s = g.S.Scalar in
    let e = entry_of s.ops c.args.m (map s.means c.args.numbers.now) c.args.j in
    let all : c.loop-l.l ≡ c.args.m.size = omega arith in
    let there : nat_lt c.args.j c.args.m.size ≡ true = search rules in
    c.loop-l.invariant i d h
    ∙ ap₂ (λ r n. product_to s.means s.ops c.args.staged.now r e i n) c.clear.auto.y all
    ∙ sym (cond-true (nat_lt c.args.j c.args.m.size) _ _ there)

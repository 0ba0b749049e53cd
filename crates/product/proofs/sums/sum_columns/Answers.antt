use Rattle.std.proofs.Common.{◌≡◌, ◌∷◌, rules}
use Rattle.product.proofs.ColumnSums.{columns_summed}
use Rattle.product.proofs.sums.sum_columns.Goals as goal

pub returns-in-Some : goal.returns-in-Some
returns-in-Some g c =
    let s = g.S.Scalar in
    let x = c.in-Some.c.now in
    let later = c.in-Some.later.now in
    let split : c.args.x.now ≡ x ∷ later = search rules in
    rw split (columns_summed s.means s.ops (s.means c.args.a.0) (s.means c.args.b.0) c.args.d.now later c.args.y.now c.first_column.new.y c.add_columns.new.y x
    c.first_column.auto.y c.add_columns.auto.y (rw split at c.requires) (rw c.split_at.ensures.front at c.first_column.ensures) (rw c.split_at.ensures.back at c.add_columns.ensures))

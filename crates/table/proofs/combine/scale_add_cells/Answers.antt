use Rattle.shape.proofs.Answered.{on_ok}
use Rattle.std.proofs.Common.{ℕ, length, sym, ◌∙◌, subst}
use Rattle.shape.specs.Operands.{TablesLawful}
use Rattle.shape.proofs.Passes.{tables_pass}
use Rattle.table.proofs.Written.{scale_added}
use Rattle.table.proofs.combine.scale_add_cells.Goals as goal

pub returns : goal.returns
returns g c =
    let s = g.S.Scalar in
    let x = c.args.x in
    let xs = c.args.xs.now in
    let y = c.args.y in
    let ys = c.args.ys.now in
    let t = c.args.t in
    let old = c.args.ts.now in
    let mid = c.zip.new.ys in
    let copied = (on_ok c.zip.result c.zip.ensures.accepted) (c.zip.ensures.verdict ∙ tables_pass x (length xs) t (length old) c.requires.first) in
    let second = subst (λ (n : ℕ). TablesLawful y (length ys) t n) (sym c.zip.auto.ys) c.requires.second in
    let gained = (on_ok c.zip-2.result c.zip-2.ensures.accepted) (c.zip-2.ensures.verdict ∙ tables_pass y (length ys) t (length mid) second) in
    scale_added s.means s.ops x xs (s.means c.args.b.0) y ys t old mid c.zip-2.new.ys copied gained

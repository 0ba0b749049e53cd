use Rattle.std.proofs.Common.{ap, ◌∙◌, w8, to_z, of_z}
use Rattle.differences.proofs.Constants.{rule, sign_held}
use Rattle.differences.proofs.matrix.constant.Goals as goal

pub returns : goal.returns
returns c =
    ap (λ z. to_z w8 (of_z w8 z)) (rule _ c.table.ensures c.args.order c.args.j c.args.l c.requires.order c.requires.row c.requires.col)
    ∙ sign_held c.args.order c.args.j c.args.l

use Rattle.std.proofs.Common.{rules}
use Rattle.index.proofs.CellsTested.{pairs_passed}
use Rattle.index.proofs.cell_check.check_pairs.Goals as goal

pub returns-4-clause-lawful : goal.returns-4-clause-lawful
returns-4-clause-lawful c = pairs_passed c.args.dst.now c.args.src.now c.args.v c.args.v_len c.args.t c.args.t_len (search rules)

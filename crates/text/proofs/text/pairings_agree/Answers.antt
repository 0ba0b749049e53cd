use Rattle.text.proofs.Agreement.{pairings_agree_lem}
use Rattle.text.proofs.text.pairings_agree.Goals as goal

pub returns : goal.returns
returns c = pairings_agree_lem c.args.text.now

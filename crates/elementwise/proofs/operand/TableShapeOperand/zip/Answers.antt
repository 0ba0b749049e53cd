use Rattle.elementwise.proofs.Bands.{zipped_tables}
use Rattle.elementwise.proofs.operand.TableShapeOperand.zip.Goals as goal

pub returns-clause-accepted : goal.returns-clause-accepted
returns-clause-accepted g c = zipped_tables (g.R.Rule.made c.args.rule) c.args.xs.now c.args.ys.now _ _ _ _ _ c.band.ensures c.band-2.ensures c.zip_bands.ensures

use Rattle.std.proofs.Common.{Some, sym, ◌∙◌, ap}
use Rattle.reader.proofs.Holding.{no_form, of_form}
use Rattle.reader.proofs.Reading.{line_none, line_some}
use Rattle.reader.proofs.program.Program.line.Goals as goal

pub returns-in_default : goal.returns-in_default
returns-in_default c ls h l = no_form ls _ _ (line_none c.args.line.now c.bytes_before-k.result c.bytes_before-k.ensures.is (sym c.read_word.ensures ∙ c.in_default.is)) h

pub returns-in-Ring : goal.returns-in-Ring
returns-in-Ring c ls h l = of_form ls _ _ _ _ (line_some c.args.line.now c.bytes_before-k.result c.bytes_before-k.ensures.is _ (sym c.read_word.ensures ∙ c.in-Some.is ∙ ap Some c.in-Ring.is)) (c.ring_line.ensures ls h l)

pub returns-in-Size : goal.returns-in-Size
returns-in-Size c ls h l = of_form ls _ _ _ _ (line_some c.args.line.now c.bytes_before-k.result c.bytes_before-k.ensures.is _ (sym c.read_word.ensures ∙ c.in-Some.is ∙ ap Some c.in-Size.is)) (c.size_line.ensures ls h l)

pub returns-in-Cell : goal.returns-in-Cell
returns-in-Cell c ls h l = of_form ls _ _ _ _ (line_some c.args.line.now c.bytes_before-k.result c.bytes_before-k.ensures.is _ (sym c.read_word.ensures ∙ c.in-Some.is ∙ ap Some c.in-Cell.is)) (c.cell_line.ensures ls h l)

pub returns-in-Step : goal.returns-in-Step
returns-in-Step c ls h l = of_form ls _ _ _ _ (line_some c.args.line.now c.bytes_before-k.result c.bytes_before-k.ensures.is _ (sym c.read_word.ensures ∙ c.in-Some.is ∙ ap Some c.in-Step.is)) (c.step_line.ensures ls h l)

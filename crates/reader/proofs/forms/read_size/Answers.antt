use Rattle.std.proofs.Common.{◌∙◌, arith}
use Rattle.lex.specs.Numbers.{plain_of}
use Rattle.lex.proofs.Progress.{whole, none_of_all}
use Rattle.reader.proofs.Fields.{size_none, size_count, size_some}
use Rattle.reader.proofs.forms.read_size.Goals as goal

pub returns-in_err-count : goal.returns-in_err-count
returns-in_err-count c = rw c.from_residual.ensures (size_none _ (none_of_all plain_of c.args.rest.now c.in_err-count.ensures.fields))

pub returns-then-count-ne3 : goal.returns-then-count-ne3
returns-then-count-ne3 c = let g = c.in_ok-count.ensures.fields in size_count _ g.got (whole plain_of c.args.rest.now _ _ _ _ _ g) (λ z. c.if-count-ne3.true (g.many ∙ z))

pub returns : goal.returns
returns c = let g = c.in_ok-count.ensures.fields in size_some _ g.got c.read_fields.new.to c.in_ok-count.count (whole plain_of c.args.rest.now _ _ _ _ _ g) g.many c.if-count-ne3.false (g.stored (omega arith))

use Rattle.std.proofs.Common.{◌≡◌, [], length, Some, sym, refl, ap, ◌∙◌, arith, rules}
use Rattle.lex.specs.Numbers.{plain_of}
use Rattle.lex.proofs.Progress.{whole, none_of_all}
use Rattle.steps.specs.declared.kind.Kind.{Kind}
use Rattle.reader.specs.Grammar.Line.{step}
use Rattle.reader.proofs.Fields.{list_none, list_some, listed_kind}
use Rattle.reader.proofs.Holding.{no_form, of_form, held_same, read_behind, none_behind}
use Rattle.reader.proofs.program.Program.list_line.Goals as goal

pub returns-in_default : goal.returns-in_default
returns-in_default c ls h l =
    no_form ls _ _ (list_none c.args.word _ (none_of_all plain_of c.args.rest.now c.in_default.ensures.fields)) (held_same ls c.args.self.now _ h refl refl refl refl refl refl c.in_default.ensures.before)

pub returns : goal.returns
returns c ls h l =
    let p = c.args.self.now in
    let g = c.in-Some.ensures.fields in
    let before = c.in-Some.ensures.before in
    let long : length p.indices ≡ 1024 = search rules in
    let k : c.kind_of.result ≡ _ = c.kind_of.ensures ∙ listed_kind c.args.word in
    of_form ls _ (Some (step c.kind_of.result [] g.got)) _ _ (list_some c.args.word _ g.got (whole plain_of c.args.rest.now _ _ _ _ _ g) ∙ ap (λ (x : Kind). Some (step x [] g.got)) (sym k))
    (
    c.add_step.ensures ls [] g.got (held_same ls p _ h refl refl refl refl refl refl before) l
    (record {
      number_count_is = refl;
      list_count_is = g.many;
      numbers = λ fits. none_behind p.numbers p.used;
      indices = λ fits. read_behind p.indices _ g.got p.listed c.in-Some.count g.many (omega arith) before (g.stored (omega arith));
    })
    )

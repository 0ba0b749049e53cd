use Rattle.std.proofs.Common.{◌≡◌, ℕ, ◌≤◌, true, false, [], length, take, drop, Some, None, sym, refl, ap, ◌∙◌, arith, rules}
use Rattle.lex.specs.Lines.{more}
use Rattle.lex.specs.Numbers.{all, plain_of, value_of}
use Rattle.lex.proofs.Progress.{whole, none_of_all}
use Rattle.steps.specs.declared.kind.Kind.{Kind}
use Rattle.reader.specs.Grammar.{takes, plain_fields}
use Rattle.reader.specs.Grammar.Line.{step}
use Rattle.reader.proofs.Fields.{values_none, values_count, values_some, padded_kind}
use Rattle.reader.proofs.Holding.{no_form, of_form, held_same, read_behind, none_behind}
use Rattle.reader.proofs.program.Program.value_line.Goals as goal

pub returns-in_default-read_fields : goal.returns-in_default-read_fields
returns-in_default-read_fields c ls h l =
    let g = c.in-Some.ensures.fields in
    let w = c.plain_fields-want.ensures.is in
    let fs = more c.args.rest.now in
    let a : all plain_of (take (plain_fields c.args.word) fs) ≡ Some g.got = ap (λ (n : ℕ). all plain_of (take n fs)) (sym w) ∙ g.are in
    let b : all value_of (drop (plain_fields c.args.word) fs) ≡ None =
    ap (λ (n : ℕ). all value_of (drop n fs)) (sym w) ∙ ap (all value_of) (sym g.others) ∙ none_of_all value_of c.in-Some.tail.now c.in_default-read_fields.ensures.fields in
    no_form ls _ _ (values_none c.args.word _ _ g.got a b) (held_same ls c.args.self.now _ h refl refl refl refl refl c.in_default-read_fields.ensures.before refl)

pub returns-then-not-takes : goal.returns-then-not-takes
returns-then-not-takes c ls h l =
    let g = c.in-Some.ensures.fields in
    let v = c.in-Some-read_fields.ensures.fields in
    let w = c.plain_fields-want.ensures.is in
    let fs = more c.args.rest.now in
    let a : all plain_of (take (plain_fields c.args.word) fs) ≡ Some g.got = ap (λ (n : ℕ). all plain_of (take n fs)) (sym w) ∙ g.are in
    let b : all value_of (drop (plain_fields c.args.word) fs) ≡ Some v.got =
    ap (λ (n : ℕ). all value_of (drop n fs)) (sym w) ∙ ap (all value_of) (sym g.others) ∙ whole value_of c.in-Some.tail.now _ _ _ _ _ v in
    let t : takes c.args.word (length v.got) ≡ false = ap (takes c.args.word) (sym v.many) ∙ sym c.if-not-takes.ensures in
    no_form ls _ _ (values_count c.args.word _ _ g.got a v.got b t) (held_same ls c.args.self.now _ h refl refl refl refl refl c.in-Some-read_fields.ensures.before refl)

pub returns : goal.returns
returns c ls h l =
    let p = c.args.self.now in
    let g = c.in-Some.ensures.fields in
    let v = c.in-Some-read_fields.ensures.fields in
    let before = c.in-Some-read_fields.ensures.before in
    let w = c.plain_fields-want.ensures.is in
    let fs = more c.args.rest.now in
    let a : all plain_of (take (plain_fields c.args.word) fs) ≡ Some g.got = ap (λ (n : ℕ). all plain_of (take n fs)) (sym w) ∙ g.are in
    let b : all value_of (drop (plain_fields c.args.word) fs) ≡ Some v.got =
    ap (λ (n : ℕ). all value_of (drop n fs)) (sym w) ∙ ap (all value_of) (sym g.others) ∙ whole value_of c.in-Some.tail.now _ _ _ _ _ v in
    let t : takes c.args.word (length v.got) ≡ true = ap (takes c.args.word) (sym v.many) ∙ sym c.if-not-takes.ensures in
    let long : length p.numbers ≡ 1024 = search rules in
    let two : c.in-Some.front ≤ 2 = omega (arith, c.plain_fields-want.ensures.few, c.if-front-want.false) in
    let k : c.kind_of.result ≡ _ = c.kind_of.ensures ∙ padded_kind c.args.word g.got c.read_fields.new.to c.in-Some.front g.many two (g.stored (omega arith)) in
    of_form ls _ (Some (step c.kind_of.result v.got [])) _ _
    (values_some c.args.word _ _ g.got a v.got b (sym g.many ∙ c.if-front-want.false ∙ w) t ∙ ap (λ (x : Kind). Some (step x v.got [])) (sym k))
    (
    c.add_step.ensures ls v.got [] (held_same ls p _ h refl refl refl refl refl before refl) l
    (record {
      number_count_is = v.many;
      list_count_is = refl;
      numbers = λ fits. read_behind p.numbers _ v.got p.used c.in-Some-read_fields.count v.many (omega arith) before (v.stored (omega arith));
      indices = λ fits. none_behind p.indices p.listed;
    })
    )

use Rattle.std.proofs.Common.{◌≡◌, ℕ, ◌≤◌, [], ◌∷◌, get_or, take, drop, ℤ, pos, Some, None, sym, ap, ◌∙◌, arith, w64, SFits, to_z, of_z, rules}
use Rattle.std.proofs.lemmas.Int.{to_z-of_z}
use Rattle.lex.specs.Lines.{more}
use Rattle.lex.specs.Numbers.{all, plain_of, value_of}
use Rattle.lex.proofs.Progress.{whole, none_of_all}
use Rattle.reader.specs.Grammar.{place_fields, cell_at}
use Rattle.reader.proofs.Fields.{cell_none, cell_count, cell_some}
use Rattle.reader.proofs.forms.read_cell.Goals as goal

pub returns-in_err-count : goal.returns-in_err-count
returns-in_err-count c =
    let g = c.in_ok-front.ensures.fields in
    let w = c.place_fields-want.ensures.is in
    let fs = more c.args.rest.now in
    let a : all plain_of (take (place_fields c.args.memory) fs) ≡ Some g.got = ap (λ (n : ℕ). all plain_of (take n fs)) (sym w) ∙ g.are in
    let b : all value_of (drop (place_fields c.args.memory) fs) ≡ None =
    ap (λ (n : ℕ). all value_of (drop n fs)) (sym w) ∙ ap (all value_of) (sym g.others) ∙ none_of_all value_of c.in_ok-front.tail.now c.in_err-count.ensures.fields in
    rw c.from_residual-in_err-count.ensures (cell_none c.args.memory _ _ g.got a b)

pub returns-then-count-ne1 : goal.returns-then-count-ne1
returns-then-count-ne1 c =
    let g = c.in_ok-front.ensures.fields in
    let v = c.in_ok-count.ensures.fields in
    let w = c.place_fields-want.ensures.is in
    let fs = more c.args.rest.now in
    let a : all plain_of (take (place_fields c.args.memory) fs) ≡ Some g.got = ap (λ (n : ℕ). all plain_of (take n fs)) (sym w) ∙ g.are in
    let b : all value_of (drop (place_fields c.args.memory) fs) ≡ Some v.got =
    ap (λ (n : ℕ). all value_of (drop n fs)) (sym w) ∙ ap (all value_of) (sym g.others) ∙ whole value_of c.in_ok-front.tail.now _ _ _ _ _ v in
    cell_count c.args.memory _ _ g.got v.got a b (λ z. c.if-count-ne1.true (v.many ∙ z))

pub returns : goal.returns
returns c =
    let g = c.in_ok-front.ensures.fields in
    let v = c.in_ok-count.ensures.fields in
    let w = c.place_fields-want.ensures.is in
    let fs = more c.args.rest.now in
    let a : all plain_of (take (place_fields c.args.memory) fs) ≡ Some g.got = ap (λ (n : ℕ). all plain_of (take n fs)) (sym w) ∙ g.are in
    let b : all value_of (drop (place_fields c.args.memory) fs) ≡ Some v.got =
    ap (λ (n : ℕ). all value_of (drop n fs)) (sym w) ∙ ap (all value_of) (sym g.others) ∙ whole value_of c.in_ok-front.tail.now _ _ _ _ _ v in
    let few : c.in_ok-front.front ≤ 3 = omega (arith, c.place_fields-want.ensures.few, c.if-front-want.false) in
    let x = get_or c.read_fields-2.new.to 0 (pos 0) in
    let fit : to_z w64 (of_z w64 x) ≡ x = (let s : SFits w64 x = search rules in to_z-of_z w64 x s) in
    let p = c.read_fields.new.to in
    ap Some c.cell_at.ensures
    ∙ ap (λ (y : ℤ). Some (cell_at c.args.memory (get_or p 0 0 ∷ get_or p 1 0 ∷ get_or p 2 0 ∷ []) y)) fit
    ∙ cell_some c.args.memory _ _ g.got v.got c.read_fields.new.to c.read_fields-2.new.to c.in_ok-front.front c.in_ok-count.count a b (c.if-front-want.false ∙ w) g.many v.many c.if-count-ne1.false (g.stored (omega arith)) (v.stored (omega arith))

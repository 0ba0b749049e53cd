-- Judging line by line finds the lawful lines and the fault behind them. Assumes nothing.
use Rattle.std.proofs.Common.{◌≡◌, ℕ, ◌+◌, ◌≤◌, Bool, true, false, cond, eqb, List, [], ◌∷◌, ◌++◌, length, take, drop, map, Some, None, Option, sym, refl, ap, ◌∙◌, subst, append_assoc, append-nil, arith}
use Rattle.std.proofs.lemmas.Bool.{eqb-true, eqb-false}
use Rattle.lex.specs.Lines.{lines, fields}
use Rattle.reader.specs.Grammar.{Line, line_of}
use Rattle.reader.specs.Judged.{Judged, fault_after, with, ended, judged_from, judged}
use Rattle.reader.specs.FirstFault.{forms, Lawful, Stops, FirstFault}
use Rattle.reader.specs.FirstFault.Lawful.{none, behind}
use Rattle.reader.proofs.Reading.{judged_is}

abbrev form : List ℕ → Option Line
form t = line_of (fields t)

-- from the lawful lines ls on
record From (ls : List Line) (ts : List (List ℕ)) (j : Judged) : Type 0 where
  pub more : List Line
  pub is : j.lawful ≡ ls ++ more
  pub lawful : Lawful j.lawful
  pub begins : take (length more) (map form ts) ≡ map Some more
  pub stops : Stops j.lawful (drop (length more) (map form ts)) j.fault

stop_here : (ls : List Line) (ts : List (List ℕ)) (j : Judged) → Lawful ls → j.lawful ≡ ls → Stops ls (map form ts) j.fault → From ls ts j
stop_here ls ts j w e s = record {
  more = [];
  is = e ∙ sym (append-nil ls);
  lawful = subst Lawful (sym e) w;
  begins = refl;
  stops = subst (λ (ms : List Line). Stops ms (map form ts) j.fault) (sym e) s;
}

one : (ts : List (List ℕ)) (ls : List Line) (t : List ℕ) (x : Option Line) (b : Bool) → ((ms : List Line) → Lawful ms → From ms ts (judged_from ms ts)) → Lawful ls → form t ≡ x → eqb (fault_after ls x) 0 ≡ b
    → From ls (t ∷ ts) (cond b (judged_from (with ls x) ts) (record { lawful = ls; fault = Some (length ls + 1, fault_after ls x) }))
one ts ls t x false later w e q = stop_here ls (t ∷ ts) _ w refl (subst (λ (o : Option Line). Stops ls (o ∷ map form ts) (Some (length ls + 1, fault_after ls x))) (sym e) (eqb-false _ _ q, refl))
one ts ls t None true later w e q = absurd (let z : 13 ≡ 0 = eqb-true 13 0 q in omega arith)
one ts ls t (Some y) true later w e q =
    let r = later (ls ++ y ∷ []) (behind ls y w (eqb-true _ _ q)) in
    record {
      more = y ∷ r.more;
      is = r.is ∙ append_assoc ls (y ∷ []) r.more;
      lawful = r.lawful;
      begins = ap (λ (o : Option Line). o ∷ take (length r.more) (map form ts)) e ∙ ap (λ (xs : List (Option Line)). Some y ∷ xs) r.begins;
      stops = r.stops;
    }

from : (ts : List (List ℕ)) (ls : List Line) → Lawful ls → From ls ts (judged_from ls ts)
from [] ls w = stop_here ls [] (ended ls) w refl refl
from (t ∷ ts) ls w = one ts ls t (form t) (eqb (fault_after ls (form t)) 0) (λ ms v. from ts ms v) w refl refl

pub first_fault : (text : List ℕ) → length text ≤ 16384 → FirstFault text (judged text)
first_fault text le =
    let j = judged_from [] (lines text) in
    let r = from (lines text) [] none in
    let at : r.more ≡ j.lawful = sym r.is in
    subst (FirstFault text) (sym (judged_is text le))
    (
    record {
      lawful = r.lawful;
      begins = subst (λ (ms : List Line). take (length ms) (forms text) ≡ map Some ms) at r.begins;
      stops = subst (λ (ms : List Line). Stops j.lawful (drop (length ms) (forms text)) j.fault) at r.stops;
    }
    )

-- The records that lie in a program's script name the steps that its lines say. Assumes nothing.
use Rattle.std.proofs.Common.{◌≡◌, ℕ, ◌+◌, ◌≤◌, ℤ, List, [], ◌∷◌, ◌++◌, length, map, take, drop, cond, Some, None, Option, refl, sym, ap, ap₂, ◌∙◌, append_assoc, arith, length-append}
use Rattle.std.proofs.lemmas.List.{length-map, map-append}
use Rattle.std.proofs.lemmas.Bool.{le-leb}
use Rattle.std.proofs.Math.Seq.{take-append_seam, drop-append_seam}
use Rattle.steps.specs.Steps.{Step, part}
use Rattle.steps.specs.Relations.{mapped}
use Rattle.state.specs.declared.record.StepRecord.{StepRecord}
use Rattle.exact.proofs.Solving.{named}
use Rattle.reader.specs.Grammar.{Line}
use Rattle.reader.specs.Grammar.Line.{ring, size, cell, step}
use Rattle.reader.specs.Said.{steps_in, numbers_in, indices_in, records_from}

-- the part that stands between two others
part_between : {A : Type 0} (xs ys zs : List A) (n m : ℕ) → length xs ≡ n → length ys ≡ m → part n m (xs ++ (ys ++ zs)) ≡ Some ys
part_between xs ys zs n m e f =
    let l = length-append xs (ys ++ zs) in
    let k = length-append ys zs in
    let le : n + m ≤ length (xs ++ (ys ++ zs)) = omega arith in
    let dropped : drop n (xs ++ (ys ++ zs)) ≡ ys ++ zs = ap (λ j. drop j (xs ++ (ys ++ zs))) (sym e) ∙ drop-append_seam xs (ys ++ zs) in
    let taken : take m (ys ++ zs) ≡ ys = ap (λ j. take j (ys ++ zs)) (sym f) ∙ take-append_seam ys zs in
    ap₂ (λ b ws. cond b (Some (take m ws)) None) (le-leb (n + m) (length (xs ++ (ys ++ zs))) le) dropped ∙ ap Some taken

module _ {M : Type 0} (value : ℤ → M) where
  numbers_between : (front ns rest : List ℤ) → part (length front) (length ns) (map value (front ++ (ns ++ rest))) ≡ Some (map value ns)
  numbers_between front ns rest =
      ap (part (length front) (length ns)) (map-append value front (ns ++ rest) ∙ ap (λ zs. map value front ++ zs) (map-append value ns rest))
      ∙ part_between (map value front) (map value ns) (map value rest) (length front) (length ns) (length-map front value) (length-map ns value)

  -- the records of the lines ls, behind other numbers and indices
  named_from : (ls : List Line) (front : List ℤ) (ahead : List ℕ)
      → named value (records_from (length front) (length ahead) (steps_in ls)) (map value (front ++ numbers_in ls)) (ahead ++ indices_in ls) ≡ map (mapped value) (steps_in ls)
  named_from [] front ahead = refl
  named_from (ring y ∷ ls) front ahead = named_from ls front ahead
  named_from (size r c n ∷ ls) front ahead = named_from ls front ahead
  named_from (cell m b j i v ∷ ls) front ahead = named_from ls front ahead
  named_from (step k ns is ∷ ls) front ahead =
      let head = λ (a : Option (List M)) (b : Option (List ℕ)). let x : Step M = record { kind = k; numbers = a; list = b } in x in
      let ln = length-append front ns in
      let li = length-append ahead is in
      let rest = λ (n i : ℕ) (zs : List ℤ) (js : List ℕ). named value (records_from n i (steps_in ls)) (map value zs) js in
      let moved : rest (length front + length ns) (length ahead + length is) (front ++ (ns ++ numbers_in ls)) (ahead ++ (is ++ indices_in ls))
      ≡ rest (length (front ++ ns)) (length (ahead ++ is)) ((front ++ ns) ++ numbers_in ls) ((ahead ++ is) ++ indices_in ls) =
      ap₂ (λ n i. rest n i (front ++ (ns ++ numbers_in ls)) (ahead ++ (is ++ indices_in ls))) (sym ln) (sym li)
      ∙ ap₂ (λ zs js. rest (length (front ++ ns)) (length (ahead ++ is)) zs js) (sym (append_assoc front ns (numbers_in ls))) (sym (append_assoc ahead is (indices_in ls))) in
      ap₂ (λ x xs. x ∷ xs)
      (ap₂ head (numbers_between front ns (numbers_in ls)) (part_between ahead is (indices_in ls) (length ahead) (length is) refl refl))
      (moved ∙ named_from ls (front ++ ns) (ahead ++ is))

  pub named_all : (ls : List Line) (rs : List StepRecord) (ns : List ℤ) (is : List ℕ)
      → rs ≡ records_from 0 0 (steps_in ls) → ns ≡ numbers_in ls → is ≡ indices_in ls
      → named value rs (map value ns) is ≡ map (mapped value) (steps_in ls)
  named_all ls rs ns is e f g =
      ap (λ xs. named value xs (map value ns) is) e
      ∙ ap₂ (λ zs js. named value (records_from 0 0 (steps_in ls)) (map value zs) js) f g
      ∙ named_from ls [] []

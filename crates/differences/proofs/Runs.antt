-- A run of memory written entry by entry, and reads of what is not written yet. Assumes nothing.
use Rattle.std.proofs.Common.{◌≡◌, ℕ, ◌+◌, ◌<◌, ◌≤◌, ◌≢◌, ◌⊎◌, List, ◌++◌, length, get_or, set, sym, ap, ◌∙◌, inl, inr, arith}
use Rattle.std.proofs.lemmas.List.{places, get_or-set_same, get_or-set_other, get_or_append_left}
use Rattle.std.proofs.lemmas.Bool.{cases_eq, cases_lt}
use Rattle.scalar.specs.Ops.{Ops}
use Rattle.scalar.specs.Sums.{at}
use Rattle.scalar.proofs.Stored.{at_read, at_same}
use Rattle.shape.specs.Changes.{RunChanged}

module _ {S : Type 0} where
  pub run_more : (a n : ℕ) (P : ℕ → S → Type 0) (old cur : List S) (v : S) → RunChanged a n P old cur → a + n < length cur → P n v → RunChanged a (n + 1) P old (set cur (a + n) v)
  run_more a n P old cur v run h new = record {
    written = λ i d l. elim (cases_eq i n) [
      | inl same ↦ let q : get_or (set cur (a + n) v) (a + i) d ≡ v = ap (λ z. get_or (set cur (a + n) v) (a + z) d) same ∙ get_or-set_same cur (a + n) v d h in rw (q, same) new
      | inr other ↦ let ne : a + i ≢ a + n = omega arith in rw (get_or-set_other cur (a + n) (a + i) v d ne) (run.written i d (omega arith))
    ];
    kept = λ p d w. let ne : p ≢ a + n = omega arith in get_or-set_other cur (a + n) p v d ne ∙ run.kept p d (elim w [ inl low ↦ inl low | inr high ↦ inr (omega arith) ]);
  }

  -- a run in the front part of a memory is one in the memory
  pub run_front : (a n : ℕ) (P : ℕ → S → Type 0) (all xs ys zs : List S) → all ≡ xs ++ zs → a + n ≤ length xs → length ys ≡ length xs → RunChanged a n P xs ys → RunChanged a n P all (ys ++ zs)
  run_front a n P all xs ys zs split h same run = rw split (record {
    written = λ i d l. rw (get_or_append_left ys zs d (a + i) (omega arith)) (run.written i d l);
    kept = λ p d w. elim (cases_lt p (length xs)) [
      | inl inside ↦ get_or_append_left ys zs d p (omega arith) ∙ run.kept p d w ∙ sym (get_or_append_left xs zs d p inside)
      | inr after ↦ grind (arith, places)
    ];
  })

-- a read of a place outside the part that is written
pub run_read : {S M : Type 0} (means : S → M) (o : Ops M) (a n : ℕ) (P : ℕ → S → Type 0) (old cur : List S) (p : ℕ) (x : S) → length cur ≡ length old → p < length old
    → RunChanged a n P old cur → (p < a) ⊎ (a + n ≤ p) → x ≡ get_or cur p x → at means o old p ≡ means x
run_read means o a n P old cur p x len h run out is =
    sym (at_same means o cur old p p (omega arith) h (λ d. run.kept p d out)) ∙ at_read means o cur p x (omega arith) is

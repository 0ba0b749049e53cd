-- Runs lent from a memory: what a part holds, what a write to it leaves, and a run filled entry by entry. Assumes nothing.
use Rattle.std.proofs.Common.{◌≡◌, ℕ, ◌+◌, ◌-◌, ◌<◌, ◌≤◌, ◌≢◌, ◌⊎◌, List, length, get_or, take, drop, set, ap, ◌∙◌, inl, inr, ⊎_elim, arith, rules}
use borrow.Rule.Slice.PartMut.{put_mid}
use Rattle.std.proofs.lemmas.List.{places, get_or-set_same, get_or-set_other}
use Rattle.std.proofs.lemmas.Bool.{cases_eq}
use Rattle.shape.specs.Changes.{RunChanged}

module _ {S : Type 0} where
  kept_out : (a k p : ℕ) (xs ys : List S) (d : S) → a + k ≤ length xs → length ys ≡ k → (p < a) ⊎ (a + k ≤ p) → get_or (put_mid a k xs ys) p d ≡ get_or xs p d
  kept_out a k p xs ys d h l w = ⊎_elim (λ below. grind (arith, places)) (λ above. grind (arith, places)) w

  written_in : (a k i : ℕ) (xs ys : List S) (d : S) → a + k ≤ length xs → length ys ≡ k → i < k → get_or (put_mid a k xs ys) (a + i) d ≡ get_or ys i d
  written_in a k i xs ys d h l w = grind (arith, places)

  pub part_get : (a k i : ℕ) (xs : List S) (d : S) → a + k ≤ length xs → i < k → get_or (take ((a + k) - a) (drop a xs)) i d ≡ get_or xs (a + i) d
  part_get a k i xs d h l = search (rules, places)

  pub length_part : (xs : List S) (a k : ℕ) → a + k ≤ length xs → length (take ((a + k) - a) (drop a xs)) ≡ k
  length_part xs a k h = search (rules, places)

  -- what a write to a part leaves in the memory that lent it
  pub part_changed : (a k : ℕ) (P : ℕ → S → Type 0) (xs ys : List S) → a + k ≤ length xs → length ys ≡ k → ((i : ℕ) (d : S) → i < k → P i (get_or ys i d))
      → RunChanged a k P xs (put_mid a ((a + k) - a) xs ys)
  part_changed a k P xs ys h l here =
      let e : (a + k) - a ≡ k = omega arith in
      rw e (record {
        written = λ i d m. rw (written_in a k i xs ys d h l m) (here i d m);
        kept = λ p d w. kept_out a k p xs ys d h l w;
      })

  -- the entries below i are as P says, the others as they were
  pub record Filled (P : ℕ → S → Type 0) (old cur : List S) (i : ℕ) : Type 0 where
    pub done : (k : ℕ) (d : S) → k < i → P k (get_or cur k d)
    pub rest : (k : ℕ) (d : S) → i ≤ k → get_or cur k d ≡ get_or old k d

  pub filled_more : (P : ℕ → S → Type 0) (old cur : List S) (i : ℕ) (v : S) → Filled P old cur i → i < length cur → P i v → Filled P old (set cur i v) (i + 1)
  filled_more P old cur i v inv h p = record {
    done = λ k d l. elim (cases_eq k i) [
      | inl same ↦ let q : get_or (set cur i v) k d ≡ v = ap (λ z. get_or (set cur i v) z d) same ∙ get_or-set_same cur i v d h in rw (q, same) p
      | inr other ↦ rw (get_or-set_other cur i k v d other) (inv.done k d (omega arith))
    ];
    rest = λ k d l. let ne : k ≢ i = omega arith in get_or-set_other cur i k v d ne ∙ inv.rest k d (omega arith);
  }

-- A relation that the operations of two scalars keep is kept by every step, every run and the pairing. Assumes nothing.
use Rattle.std.proofs.Common.{◌≡◌, ℕ, zero, suc, ◌+◌, ◌-◌, ◌*◌, ◌<◌, ◌≤◌, Bool, true, false, cond, ◌&&◌, eqb, ltb, leb, List, [], ◌∷◌, length, get_or, refl, ap, ◌∙◌, subst, arith}
use Rattle.std.proofs.lemmas.Bool.Decides.{nat_tests}
use Rattle.scalar.specs.Ops.{Ops}
use Rattle.scalar.specs.Sums.{sum, sum_from}
use Rattle.shape.specs.Refusals.{first_of}
use Rattle.vector.specs.Rows.{blend}
use Rattle.index.specs.Indices.{outside, settled}
use Rattle.index.proofs.Tested.{inside_of}
use Rattle.product.specs.Rows.{summed, spread}
use Rattle.differences.specs.Rows.{updated, scanned, transposed, multiplied, number}
use Rattle.steps.specs.States.{Lane, Related, columns_from, pairing}
use Rattle.index.specs.Transposes.{put, scattered_back, gathered_back}
use Rattle.steps.specs.Steps.{Step, given, miscounted, needed, listed, misplaced, too_many, fault}
use Rattle.steps.specs.Actions.{row, nth, total, forward_by, back_by, forward, back}
use Rattle.steps.specs.Runs.{taken, carried, run, carry}
use Rattle.steps.specs.Relations.{Keeps, Matched, AllMatched}
use Rattle.steps.specs.declared.kind.Kind.{Kind}
use Rattle.steps.specs.declared.kind.Kind.TheVariants.{Update, Cols, SumCol, AddCol, SetCol, Axpy, Copy, Scale, Gather, Scatter}
use Rattle.steps.proofs.Accepted.{Lawful, accepted}

module _ {M N : Type 0} {o : Ops M} {p : Ops N} {R : M → N → Type 0} where
  -- matched steps are refused alike
  pub fault_matched : (r c : ℕ) (x : Step M) (y : Step N) → Matched o p R x y → fault r c x ≡ fault r c y
  fault_matched r c x y m =
      let tests : Kind → Bool → Bool → Bool → List (ℕ × Bool) = λ k few missing wrong.
      (4, misplaced c k) ∷ (5, too_many k) ∷ (6, few) ∷ (9, listed k && missing) ∷ (10, listed k && wrong) ∷ [] in
      let missing = miscounted r x.list in
      let wrong = outside r (given x.list) in
      ap (λ k. first_of (tests k (miscounted (needed x.kind) x.numbers) missing wrong)) m.kind
      ∙ ap (λ few. first_of (tests y.kind few missing wrong)) (m.counts (needed x.kind) ∙ ap (λ k. miscounted (needed k) y.numbers) m.kind)
      ∙ ap (λ ks. first_of (tests y.kind (miscounted (needed y.kind) y.numbers) (miscounted r ks) (outside r (given ks)))) m.list

module _ {M N : Type 0} {o : Ops M} {p : Ops N} {R : M → N → Type 0} (σ : Keeps o p R) where
  -- ---- rows

  abbrev Along : ℕ → (ℕ → M) → (ℕ → N) → Type 0
  Along n g h = (k : ℕ) → k < n → R (g k) (h k)

  by_test : (b : Bool) (x y : M) (v w : N) → (b ≡ true → R x v) → (b ≡ false → R y w) → R (cond b x y) (cond b v w)
  by_test true x y v w g h = g refl
  by_test false x y v w g h = h refl

  put_kept : (n : ℕ) (g : ℕ → M) (h : ℕ → N) (k : ℕ) (x : M) (y : N) → Along n g h → R x y → Along n (put g k x) (put h k y)
  put_kept n g h k x y s e l b = by_test (eqb k l) x (g l) y (h l) (λ _. e) (λ _. s l b)

  pub sum_kept : (a : M) (b : N) (g : ℕ → M) (h : ℕ → N) (n : ℕ) → R a b → Along n g h → R (sum_from o a g n) (sum_from p b h n)
  sum_kept a b g h zero e s = e
  sum_kept a b g h (suc n) e s = σ.plus (sum_kept a b g h n e (λ k l. s k (omega arith))) (s n (omega arith))

  blend_kept : (a x b y : M) (a' x' b' y' : N) → R a a' → R x x' → R b b' → o.is_zero b ≡ p.is_zero b' → R y y' → R (blend o a x b y) (blend p a' x' b' y')
  blend_kept a x b y a' x' b' y' ha hx hb t hy =
      subst (λ q. R (blend o a x b y) (cond q (p.times a' x') (p.plus (p.times a' x') (p.times b' y')))) t
      (by_test (o.is_zero b) (o.times a x) (o.plus (o.times a x) (o.times b y)) (p.times a' x') (p.plus (p.times a' x') (p.times b' y'))
      (λ _. σ.times ha hx) (λ _. σ.plus (σ.times ha hx) (σ.times hb hy)))

  scanned_kept : (x : ℕ → M) (y : ℕ → N) (d : M) (e : N) (k t : ℕ) → Along (k + 2) x y → R d e → R (scanned o x d k t) (scanned p y e k t)
  scanned_kept x y d e k zero h q = σ.plus q (σ.minus (h (k + 1) (omega arith)))
  scanned_kept x y d e k (suc t) h q = σ.plus (h (k + 1 - t) (omega arith)) (scanned_kept x y d e k t h q)

  updated_kept : (x : ℕ → M) (y : ℕ → N) (d : M) (e : N) (k c : ℕ) → k + 2 < c → Along c x y → R d e → Along c (updated o x d k) (updated p y e k)
  updated_kept x y d e k c h s q j b =
      by_test (leb j (k + 2)) (scanned o x d k (k + 2 - j)) (x j) (scanned p y e k (k + 2 - j)) (y j)
      (λ _. scanned_kept x y d e k (k + 2 - j) (λ l g. s l (omega arith)) q) (λ _. s j b)

  transposed_kept : (k j l : ℕ) → R (transposed o k j l) (transposed p k j l)
  transposed_kept k j l =
      by_test (leb j k) _ _ _ _
      (λ _. by_test (leb l j) o.one o.zero p.one p.zero (λ _. σ.one) (λ _. σ.zero))
      (λ _. by_test (eqb j (k + 1) && eqb l (k + 2)) (o.minus o.one) o.zero (p.minus p.one) p.zero (λ _. σ.minus σ.one) (λ _. σ.zero))

  multiplied_kept : (x : ℕ → M) (y : ℕ → N) (k c : ℕ) (m : ℕ → ℕ → M) (n : ℕ → ℕ → N) → k ≤ c → ((j l : ℕ) → R (m j l) (n j l)) → Along c x y
      → Along c (multiplied o x k m) (multiplied p y k n)
  multiplied_kept x y k c m n h q s j b =
      by_test (ltb j k) (sum o (λ l. o.times (x l) (m j l)) k) (x j) (sum p (λ l. p.times (y l) (n j l)) k) (y j)
      (λ _. sum_kept o.zero p.zero (λ l. o.times (x l) (m j l)) (λ l. p.times (y l) (n j l)) k σ.zero (λ l g. σ.times (s l (omega arith)) (q j l)))
      (λ _. s j b)

  summed_kept : (x : ℕ → M) (y : ℕ → N) (start n c : ℕ) (a b : M) (a' b' : N) (k : ℕ → M) (k' : ℕ → N) (d : M) (e : N)
      → start + n ≤ c → R a a' → R b b' → o.is_zero b ≡ p.is_zero b' → ((l : ℕ) → R (k l) (k' l)) → Along c x y → R d e
      → R (summed o x start n a b k d) (summed p y start n a' b' k' e)
  summed_kept x y start zero c a b a' b' k k' d e h ha hb t hk s q =
      subst (λ v. R (summed o x start zero a b k d) (cond v p.zero (p.times b' e))) t
      (by_test (o.is_zero b) o.zero (o.times b d) p.zero (p.times b' e) (λ _. σ.zero) (λ _. σ.times hb q))
  summed_kept x y start (suc n) c a b a' b' k k' d e h ha hb t hk s q =
      sum_kept (blend o (o.times a (x start)) (k 0) b d) (blend p (p.times a' (y start)) (k' 0) b' e)
      (λ l. o.times (o.times a (x (start + suc l))) (k (suc l))) (λ l. p.times (p.times a' (y (start + suc l))) (k' (suc l))) n
      (blend_kept (o.times a (x start)) (k 0) b d (p.times a' (y start)) (k' 0) b' e (σ.times ha (s start (omega arith))) (hk 0) hb t q)
      (λ l g. σ.times (σ.times ha (s (start + suc l) (omega arith))) (hk (suc l)))

  total_kept : (x : ℕ → M) (y : ℕ → N) (n c : ℕ) → n ≤ c → Along c x y → R (total o x n) (total p y n)
  total_kept x y n c h s =
      summed_kept x y 0 n c o.one o.zero p.one p.zero (λ l. o.one) (λ l. p.one) o.zero p.zero
      (omega arith) σ.one σ.zero σ.test (λ l. σ.one) s σ.zero

  spread_kept : (x : ℕ → M) (y : ℕ → N) (start n c : ℕ) (a : M) (a' : N) (k : ℕ → M) (k' : ℕ → N) (d : M) (e : N)
      → R a a' → ((l : ℕ) → R (k l) (k' l)) → Along c x y → R d e → Along c (spread o x start n a k d) (spread p y start n a' k' e)
  spread_kept x y start n c a a' k k' d e ha hk s q j b =
      by_test (leb start j && ltb j (start + n))
      (o.plus (x j) (o.times (o.times a (k (j - start))) d)) (x j) (p.plus (y j) (p.times (p.times a' (k' (j - start))) e)) (y j)
      (λ _. σ.plus (s j b) (σ.times (σ.times ha (hk (j - start))) q)) (λ _. s j b)

  -- ---- lists

  settled_kept : (r : ℕ) (ks : List ℕ) (i : ℕ) (u v : ℕ → M) (u' v' : ℕ → N) → i + length ks ≤ r → Along r u u' → Along r v v'
      → Along r (λ k. settled ks i k u (v k)) (λ k. settled ks i k u' (v' k))
  settled_kept r [] i u v u' v' b h g = g
  settled_kept r (k ∷ ks) i u v u' v' b h g =
      settled_kept r ks (suc i) u (put v k (u i)) u' (put v' k (u' i)) (omega arith) h (put_kept r v v' k (u i) (u' i) g (h i (omega arith)))

  scattered_back_kept : (r : ℕ) (ks : List ℕ) (i : ℕ) (u v : ℕ → M) (u' v' : ℕ → N) → i + length ks ≤ r → outside r ks ≡ false → Along r u u' → Along r v v'
      → Along r (scattered_back o ks i u v).0 (scattered_back p ks i u' v').0 × Along r (scattered_back o ks i u v).1 (scattered_back p ks i u' v').1
  scattered_back_kept r [] i u v u' v' b all h g = (h, g)
  scattered_back_kept r (k ∷ ks) i u v u' v' b all h g =
      let w = scattered_back o ks (suc i) u v in
      let w' = scattered_back p ks (suc i) u' v' in
      let rest = scattered_back_kept r ks (suc i) u v u' v' (omega arith) (grind (arith, nat_tests)) h g in (
        put_kept r w.0 w'.0 i (o.plus (w.0 i) (w.1 k)) (p.plus (w'.0 i) (w'.1 k)) rest.0 (σ.plus (rest.0 i (omega arith)) (rest.1 k (grind (arith, nat_tests)))),
        put_kept r w.1 w'.1 k o.zero p.zero rest.1 σ.zero,
      )

  gathered_back_kept : (r : ℕ) (ks : List ℕ) (i : ℕ) (u v : ℕ → M) (u' v' : ℕ → N) → i + length ks ≤ r → outside r ks ≡ false → Along r u u' → Along r v v'
      → Along r (gathered_back o ks i u v) (gathered_back p ks i u' v')
  gathered_back_kept r [] i u v u' v' b all h g = g
  gathered_back_kept r (k ∷ ks) i u v u' v' b all h g =
      gathered_back_kept r ks (suc i) u (put v k (o.plus (v k) (u i))) u' (put v' k (p.plus (v' k) (u' i))) (omega arith) (grind (arith, nat_tests)) h
      (put_kept r v v' k (o.plus (v k) (u i)) (p.plus (v' k) (u' i)) g (σ.plus (g k (grind (arith, nat_tests))) (h i (omega arith))))

  -- ---- kinds

  module _ (r c : ℕ) (ms : List M) (ns : List N) (ks : List ℕ)
      (hn : (l : ℕ) → R (nth o ms l) (nth p ns l)) (ht : (l : ℕ) → o.is_zero (nth o ms l) ≡ p.is_zero (nth p ns l)) where
    forward_by_kept : (k : Kind) → Lawful r c k ks → (s : Lane M) (t : Lane N) → Related R r c s t → Related R r c (forward_by o k ms ks s) (forward_by p k ns ks t)
    forward_by_kept (Update k) a s t h =
        let inside = a.inside in
        record {
          table = λ j i b d. updated_kept (row s i) (row t i) (s.first i) (t.first i) k c (grind (arith, nat_tests)) (λ l g. h.table l i g d) (h.first i d) j b;
          first = h.first;
          second = h.second;
        }
    forward_by_kept (Cols k) a s t h =
        let inside = a.inside in
        record {
          table = λ j i b d. multiplied_kept (row s i) (row t i) k c (number o k ms) (number p k ns) (grind (arith, nat_tests)) (λ j l. hn (j * k + l)) (λ l g. h.table l i g d) j b;
          first = h.first;
          second = h.second;
        }
    forward_by_kept (SumCol start end) a s t h =
        let inside = a.inside in
        record {
          table = h.table;
          first = λ i d.
              summed_kept (row s i) (row t i) start (end - start) c (nth o ms 0) (nth o ms 1) (nth p ns 0) (nth p ns 1) (λ l. nth o ms (2 + l)) (λ l. nth p ns (2 + l)) (s.first i) (t.first i)
              (grind (arith, nat_tests)) (hn 0) (hn 1) (ht 1) (λ l. hn (2 + l)) (λ l g. h.table l i g d) (h.first i d);
          second = h.second;
        }
    forward_by_kept (AddCol j) a s t h =
        let inside = a.inside in
        record { table = h.table; first = λ i d. σ.plus (h.first i d) (h.table j i (grind (arith, nat_tests)) d); second = h.second }
    forward_by_kept (SetCol j) a s t h = record {
      table = λ l i b d. put_kept c (row s i) (row t i) j (s.first i) (t.first i) (λ m g. h.table m i g d) (h.first i d) l b;
      first = h.first;
      second = h.second;
    }
    forward_by_kept Axpy a s t h = record {
      table = h.table;
      first = λ i d. blend_kept (nth o ms 0) (s.second i) (nth o ms 1) (s.first i) (nth p ns 0) (t.second i) (nth p ns 1) (t.first i) (hn 0) (h.second i d) (hn 1) (ht 1) (h.first i d);
      second = h.second;
    }
    forward_by_kept Copy a s t h = record { table = h.table; first = h.first; second = h.first }
    forward_by_kept Scale a s t h = record { table = h.table; first = λ i d. σ.times (h.first i d) (hn 0); second = h.second }
    forward_by_kept Gather a s t h =
        let all = a.entries refl in
        record { table = h.table; first = λ i d. h.second (get_or ks i 0) (inside_of r ks (a.below refl) i (omega arith)); second = h.second }
    forward_by_kept Scatter a s t h =
        let all = a.entries refl in
        record { table = h.table; first = h.first; second = settled_kept r ks 0 s.first s.second t.first t.second (omega arith) h.first h.second }

    back_by_kept : (k : Kind) → Lawful r c k ks → (s : Lane M) (t : Lane N) → Related R r c s t → Related R r c (back_by o k ms ks s) (back_by p k ns ks t)
    back_by_kept (Update k) a s t h =
        let inside = a.inside in
        record {
          table = λ j i b d. multiplied_kept (row s i) (row t i) (k + 3) c (transposed o k) (transposed p k) (grind (arith, nat_tests)) (transposed_kept k) (λ l g. h.table l i g d) j b;
          first = λ i d. σ.plus (h.first i d) (total_kept (row s i) (row t i) (k + 3) c (grind (arith, nat_tests)) (λ l g. h.table l i g d));
          second = h.second;
        }
    back_by_kept (Cols k) a s t h =
        let inside = a.inside in
        record {
          table = λ j i b d. multiplied_kept (row s i) (row t i) k c (λ j l. number o k ms l j) (λ j l. number p k ns l j) (grind (arith, nat_tests)) (λ j l. hn (l * k + j)) (λ l g. h.table l i g d) j b;
          first = h.first;
          second = h.second;
        }
    back_by_kept (SumCol start end) a s t h = record {
      table = λ j i e d.
          spread_kept (row s i) (row t i) start (end - start) c (nth o ms 0) (nth p ns 0) (λ l. nth o ms (2 + l)) (λ l. nth p ns (2 + l)) (s.first i) (t.first i)
          (hn 0) (λ l. hn (2 + l)) (λ l g. h.table l i g d) (h.first i d) j e;
      first = λ i d. σ.times (h.first i d) (hn 1);
      second = h.second;
    }
    back_by_kept (AddCol j) a s t h =
        let inside = a.inside in
        record {
          table = λ l i b d.
              put_kept c (row s i) (row t i) j (o.plus (s.table j i) (s.first i)) (p.plus (t.table j i) (t.first i)) (λ m g. h.table m i g d)
              (σ.plus (h.table j i (grind (arith, nat_tests)) d) (h.first i d)) l b;
          first = h.first;
          second = h.second;
        }
    back_by_kept (SetCol j) a s t h =
        let inside = a.inside in
        record {
          table = λ l i b d. put_kept c (row s i) (row t i) j o.zero p.zero (λ m g. h.table m i g d) σ.zero l b;
          first = λ i d. σ.plus (h.first i d) (h.table j i (grind (arith, nat_tests)) d);
          second = h.second;
        }
    back_by_kept Axpy a s t h = record { table = h.table; first = λ i d. σ.times (h.first i d) (hn 1); second = λ i d. σ.plus (h.second i d) (σ.times (hn 0) (h.first i d)) }
    back_by_kept Copy a s t h = record { table = h.table; first = λ i d. σ.plus (h.first i d) (h.second i d); second = λ i d. σ.zero }
    back_by_kept Scale a s t h = record { table = h.table; first = λ i d. σ.times (h.first i d) (hn 0); second = h.second }
    back_by_kept Gather a s t h =
        let all = a.entries refl in
        record { table = h.table; first = λ i d. σ.zero; second = gathered_back_kept r ks 0 s.first s.second t.first t.second (omega arith) (a.below refl) h.first h.second }
    back_by_kept Scatter a s t h =
        let all = a.entries refl in
        let both = scattered_back_kept r ks 0 s.first s.second t.first t.second (omega arith) (a.below refl) h.first h.second in
        record { table = h.table; first = both.0; second = both.1 }

  -- ---- steps

  module _ (r c : ℕ) (x : Step M) (y : Step N) (m : Matched o p R x y) (s : Lane M) (t : Lane N) (h : Related R r c s t) where
    pub forward_kept : fault r c x ≡ 0 → Related R r c (forward o x s) (forward p y t)
    forward_kept e =
        subst (λ ks. Related R r c (forward o x s) (forward_by p y.kind (given y.numbers) (given ks) t)) m.list
        (subst (λ k. Related R r c (forward o x s) (forward_by p k (given y.numbers) (given x.list) t)) m.kind
        (forward_by_kept r c (given x.numbers) (given y.numbers) (given x.list) m.numbers m.tests x.kind (accepted r c x e) s t h))

    pub back_kept : fault r c x ≡ 0 → Related R r c (back o x s) (back p y t)
    back_kept e =
        subst (λ ks. Related R r c (back o x s) (back_by p y.kind (given y.numbers) (given ks) t)) m.list
        (subst (λ k. Related R r c (back o x s) (back_by p k (given y.numbers) (given x.list) t)) m.kind
        (back_by_kept r c (given x.numbers) (given y.numbers) (given x.list) m.numbers m.tests x.kind (accepted r c x e) s t h))

    pub taken_kept : Related R r c (taken o r c x s) (taken p r c y t)
    taken_kept = subst (λ n. Related R r c (taken o r c x s) (cond (eqb n 0) (forward p y t) t)) (fault_matched r c x y m) (by (eqb (fault r c x) 0) refl)
      where
        by : (b : Bool) → eqb (fault r c x) 0 ≡ b → Related R r c (cond b (forward o x s) s) (cond b (forward p y t) t)
        by true e = forward_kept (grind (arith, nat_tests))
        by false e = h

    pub carried_kept : Related R r c (carried o r c x s) (carried p r c y t)
    carried_kept = subst (λ n. Related R r c (carried o r c x s) (cond (eqb n 0) (back p y t) t)) (fault_matched r c x y m) (by (eqb (fault r c x) 0) refl)
      where
        by : (b : Bool) → eqb (fault r c x) 0 ≡ b → Related R r c (cond b (back o x s) s) (cond b (back p y t) t)
        by true e = back_kept (grind (arith, nat_tests))
        by false e = h

  -- ---- runs

  pub run_kept : (r c : ℕ) (xs : List (Step M)) (ys : List (Step N)) → AllMatched o p R xs ys → (s : Lane M) (t : Lane N) → Related R r c s t
      → Related R r c (run o r c xs s) (run p r c ys t)
  run_kept r c [] [] m s t h = h
  run_kept r c [] (y ∷ ys) m s t h = absurd m
  run_kept r c (x ∷ xs) [] m s t h = absurd m
  run_kept r c (x ∷ xs) (y ∷ ys) m s t h = run_kept r c xs ys m.1 (taken o r c x s) (taken p r c y t) (taken_kept r c x y m.0 s t h)

  pub carry_kept : (r c : ℕ) (xs : List (Step M)) (ys : List (Step N)) → AllMatched o p R xs ys → (s : Lane M) (t : Lane N) → Related R r c s t
      → Related R r c (carry o r c xs s) (carry p r c ys t)
  carry_kept r c [] [] m s t h = h
  carry_kept r c [] (y ∷ ys) m s t h = absurd m
  carry_kept r c (x ∷ xs) [] m s t h = absurd m
  carry_kept r c (x ∷ xs) (y ∷ ys) m s t h = carried_kept r c x y m.0 (carry o r c xs s) (carry p r c ys t) (carry_kept r c xs ys m.1 s t h)

  -- ---- the pairing

  columns_kept : (r : ℕ) (a : M) (b : N) (g : ℕ → ℕ → M) (h : ℕ → ℕ → N) (c : ℕ) → R a b → ((j i : ℕ) → j < c → i < r → R (g j i) (h j i))
      → R (columns_from o r a g c) (columns_from p r b h c)
  columns_kept r a b g h zero e s = e
  columns_kept r a b g h (suc c) e s =
      sum_kept (columns_from o r a g c) (columns_from p r b h c) (g c) (h c) r (columns_kept r a b g h c e (λ j i l d. s j i (omega arith) d)) (λ i d. s c i (omega arith) d)

  pub pairing_kept : (r c : ℕ) (s w : Lane M) (t v : Lane N) → Related R r c s t → Related R r c w v → R (pairing o r c s w) (pairing p r c t v)
  pairing_kept r c s w t v h g =
      sum_kept _ _ (λ i. o.times (s.second i) (w.second i)) (λ i. p.times (t.second i) (v.second i)) r
      (sum_kept _ _ (λ i. o.times (s.first i) (w.first i)) (λ i. p.times (t.first i) (v.first i)) r
      (columns_kept r o.zero p.zero (λ j i. o.times (s.table j i) (w.table j i)) (λ j i. p.times (t.table j i) (v.table j i)) c σ.zero
      (λ j i l d. σ.times (h.table j i l d) (g.table j i l d)))
      (λ i d. σ.times (h.first i d) (g.first i d)))
      (λ i d. σ.times (h.second i d) (g.second i d))

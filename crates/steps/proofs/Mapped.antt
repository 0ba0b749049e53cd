-- A step whose numbers are mapped to another scalar matches the step, where each number is related to what it is mapped to. Assumes nothing.
use Rattle.std.proofs.Common.{◌≡◌, ℕ, zero, suc, ◌<◌, not, eqb, List, [], ◌∷◌, map, length, Some, None, Option, sym, refl, ap, arith}
use lib.ListN.{length-map}
use Rattle.scalar.specs.Ops.{Ops}
use Rattle.steps.specs.Steps.{Step, given, miscounted}
use Rattle.steps.specs.Actions.{nth}
use Rattle.steps.specs.Relations.{Keeps, Matched, map_given, mapped}

pub counts_mapped : {M N : Type 0} (f : M → N) (ns : Option (List M)) (n : ℕ) → miscounted n ns ≡ miscounted n (map_given f ns)
counts_mapped f None n = refl
counts_mapped f (Some ms) n = ap (λ k. not (eqb k n)) (sym (length-map ms f))

module _ {M N : Type 0} {o : Ops M} {p : Ops N} {R : M → N → Type 0} (σ : Keeps o p R) (f : M → N) where
  -- a and f a are related, and zero together
  abbrev pub Fair : M → Type 0
  Fair a = R a (f a) × (o.is_zero a ≡ p.is_zero (f a))

  abbrev pub AllFair : List M → Type 0
  AllFair ms = (l : ℕ) → l < length ms → Fair (nth o ms l)

  fair_nth : (ms : List M) (l : ℕ) → AllFair ms → R (nth o ms l) (nth p (map f ms) l) × (o.is_zero (nth o ms l) ≡ p.is_zero (nth p (map f ms) l))
  fair_nth [] l h = (σ.zero, σ.test)
  fair_nth (m ∷ ms) zero h = h 0 (omega arith)
  fair_nth (m ∷ ms) (suc l) h = fair_nth ms l (λ k b. h (suc k) (omega arith))

  fair_given : (ns : Option (List M)) (l : ℕ) → AllFair (given ns)
      → R (nth o (given ns) l) (nth p (given (map_given f ns)) l) × (o.is_zero (nth o (given ns) l) ≡ p.is_zero (nth p (given (map_given f ns)) l))
  fair_given None l h = (σ.zero, σ.test)
  fair_given (Some ms) l h = fair_nth ms l h

  pub mapped_matched : (x : Step M) → AllFair (given x.numbers) → Matched o p R x (mapped f x)
  mapped_matched x h = record {
    kind = refl;
    list = refl;
    counts = counts_mapped f x.numbers;
    numbers = λ l. (fair_given x.numbers l h).0;
    tests = λ l. (fair_given x.numbers l h).1;
  }

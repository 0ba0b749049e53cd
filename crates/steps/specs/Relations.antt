-- The same run over two scalars: what it takes that a relation of their meanings is kept. Assumes nothing.
use Rattle.std.specs.Prelude.{◌≡◌, ℕ, List, [], ◌∷◌, map, Some, None, Option}
use Rattle.scalar.specs.Ops.{Ops}
use Rattle.steps.specs.Steps.{Step, given, miscounted}
use Rattle.steps.specs.Actions.{nth}

abbrev pub map_given : {A B : Type 0} → (A → B) → Option (List A) → Option (List B)
map_given f None = None
map_given f (Some xs) = Some (map f xs)

-- the operations keep R
pub record Keeps {M N : Type 0} (o : Ops M) (p : Ops N) (R : M → N → Type 0) : Type 0 where
  pub zero : R o.zero p.zero
  pub one : R o.one p.one
  pub plus : {a b : M} {x y : N} → R a x → R b y → R (o.plus a b) (p.plus x y)
  pub times : {a b : M} {x y : N} → R a x → R b y → R (o.times a b) (p.times x y)
  pub minus : {a : M} {x : N} → R a x → R (o.minus a) (p.minus x)
  pub test : o.is_zero o.zero ≡ p.is_zero p.zero

module _ {M N : Type 0} (o : Ops M) (p : Ops N) (R : M → N → Type 0) where
  -- two steps of one kind and one list, whose numbers are as many, are related and are zero together
  pub record Matched (x : Step M) (y : Step N) : Type 0 where
    pub kind : x.kind ≡ y.kind
    pub list : x.list ≡ y.list
    pub counts : (n : ℕ) → miscounted n x.numbers ≡ miscounted n y.numbers
    pub numbers : (l : ℕ) → R (nth o (given x.numbers) l) (nth p (given y.numbers) l)
    pub tests : (l : ℕ) → o.is_zero (nth o (given x.numbers) l) ≡ p.is_zero (nth p (given y.numbers) l)

  abbrev pub AllMatched : List (Step M) → List (Step N) → Type 0
  AllMatched [] [] = Unit {0}
  AllMatched [] (y ∷ ys) = ⊥
  AllMatched (x ∷ xs) [] = ⊥
  AllMatched (x ∷ xs) (y ∷ ys) = Matched x y × AllMatched xs ys

-- a step with its numbers mapped
abbrev pub mapped : {M N : Type 0} → (M → N) → Step M → Step N
mapped f x = record { kind = x.kind; numbers = map_given f x.numbers; list = x.list }

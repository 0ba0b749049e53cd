-- The numbers that a field spells. Assumes nothing.
use Rattle.std.specs.Prelude.{ℕ, ◌+◌, ◌-◌, ◌*◌, Bool, true, false, cond, ◌||◌, List, [], ◌∷◌, length, ℤ, pos, ◌-ℤ◌, Some, None, Option, ◌==◌, nat_lt}

-- the number spelt by digits after a front whose number is n; none if a byte is no digit
abbrev pub spelt : ℕ → List ℕ → Option ℕ
spelt n [] = Some n
spelt n (b ∷ bs) = cond (nat_lt b 48 || nat_lt 57 b) None (spelt (n * 10 + (b - 48)) bs)

-- 1 to most digits
abbrev pub digits : ℕ → List ℕ → Option ℕ
digits most ds = cond (length ds == 0 || nat_lt most (length ds)) None (spelt 0 ds)

-- a plain number: 1 to 9 digits
abbrev pub plain_of : List ℕ → Option ℕ
plain_of ds = digits 9 ds

abbrev pub capped : Option ℕ → Option ℕ
capped None = None
capped (Some n) = cond (nat_lt 2147483646 n) None (Some n)

-- a magnitude: 1 to 10 digits, of size at most 2,147,483,646
abbrev pub magnitude_of : List ℕ → Option ℕ
magnitude_of ds = capped (digits 10 ds)

abbrev pub signed : Bool → Option ℕ → Option ℤ
signed b None = None
signed true (Some n) = Some (pos 0 -ℤ pos n)
signed false (Some n) = Some (pos n)

-- a value: a magnitude, perhaps after a minus (45)
abbrev pub value_of : List ℕ → Option ℤ
value_of [] = None
value_of (b ∷ bs) = cond (b == 45) (signed true (magnitude_of bs)) (signed false (magnitude_of (b ∷ bs)))

abbrev pub both : {X : Type 0} → Option X → Option (List X) → Option (List X)
both None xs = None
both (Some x) None = None
both (Some x) (Some xs) = Some (x ∷ xs)

-- what the fields spell, each by the same rule; none if one of them spells nothing
abbrev pub all : {X : Type 0} → (List ℕ → Option X) → List (List ℕ) → Option (List X)
all rule [] = Some []
all rule (f ∷ fs) = both (rule f) (all rule fs)

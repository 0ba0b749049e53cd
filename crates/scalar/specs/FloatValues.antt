-- The floats are a set, and the constants 0.0 and 1.0. Assumes nothing.
use Rattle.std.specs.Prelude.{◌≡◌, ℕ, zero, suc, ◌*◌, ◌<◌, Bool, true, false, T, to_bits, refl, Float}
use Rattle.std.proofs.Common.{sym, ap, ◌∙◌, mul-pos, arith, eq-eqb, ne_eqb}
use Rattle.std.specs.Float.Ieee.Bits.{of_bits-to_bits}
use base.Stored.{Coded-set, coded_float}
use Rattle.std.specs.Float.Ieee.Fits.{up_pos}
use Rattle.std.specs.Float.Ieee.{eq, up, down, level, of_bits, fits}
use Rattle.std.specs.Float.{nan, inf, fin, Format, binary32, binary64}
use Rattle.scalar.specs.Floats.{zero_float, one_float, is_zero_float}

pub float_set : IsSet Float
float_set = Coded-set coded_float

pub zero_bits_64 : of_bits binary64 0 ≡ zero_float
unfolding of_bits
zero_bits_64 = refl

pub one_bits_64 : of_bits binary64 4607182418800017408 ≡ one_float
unfolding of_bits
one_bits_64 = refl

pub zero_bits_32 : of_bits binary32 0 ≡ zero_float
unfolding of_bits
zero_bits_32 = refl

pub one_bits_32 : of_bits binary32 1065353216 ≡ one_float
unfolding of_bits
one_bits_32 = refl

-- values of one format that have the same bits are the same
pub same_bits : (f : Format) (x y : Float) → T (fits f x) → T (fits f y) → to_bits f x ≡ to_bits f y → x ≡ y
same_bits f x y p q e = sym (of_bits-to_bits f x p) ∙ ap (of_bits f) e ∙ of_bits-to_bits f y q

level_zero : (s : Bool) (a b : ℕ) → a ≡ 0 → b ≡ 0 → level s a false b ≡ true
level_zero true a b p q = rw (eq-eqb a b (omega arith), eq-eqb a 0 p)
level_zero false a b p q = rw (eq-eqb a b (omega arith))

level_more : (s : Bool) (a b : ℕ) → 0 < a → b ≡ 0 → level s a false b ≡ false
level_more s a b p q = rw (ne_eqb a b (λ e. omega arith))

-- `x == 0.0` is the test for 0 and -0
pub is_zero : (x : Float) → eq x zero_float ≡ is_zero_float x
unfolding eq
is_zero nan = refl
is_zero (inf s) = refl
is_zero (fin s zero e) = level_zero s (0 * up e * 1) (0 * 1 * down e) (omega arith) (omega arith)
is_zero (fin s (suc m) e) =
    level_more s (suc m * up e * 1) (0 * 1 * down e) (omega (arith, mul-pos {m = suc m} {n = up e} (omega arith) (up_pos e))) (omega arith)
    ∙ sym (ne_eqb (suc m) 0 (λ q. omega arith))

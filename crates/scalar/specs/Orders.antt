-- What an ordered scalar adds to a scalar's operations. Assumes nothing.
use Rattle.std.specs.Prelude.{ℕ, Bool, false, cond, ◌||◌, pos, is_nan, Float}
use Rattle.std.specs.Float.Ieee.{lt, div, of_int}
use Rattle.std.specs.Float.{float_with_sign, Format}

pub record Order (M : Type 0) : Type 0 where
  pub over : M → M → M
  pub size : M → M
  pub less : M → M → Bool
  pub greater : M → M → M
  pub count : ℕ → M

-- where one is not a number the other, where neither is greater the first
abbrev pub greater_float : Float → Float → Float
greater_float x y = cond (is_nan x || lt x y) y x

abbrev pub ordered : Format → Order Float
ordered f = record {
  over = div f;
  size = float_with_sign false;
  less = lt;
  greater = greater_float;
  count = λ n. of_int f (pos n);
}

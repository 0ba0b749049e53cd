use Rattle.std.proofs.Common.{refl}
use lib.Ieee.{span, climb, size, odd, units, round, neg, sum, add, mul, div, lt, is_nan}
use Rattle.std.specs.Float.{float_with_sign}
use Rattle.figures.proofs.figures_stand.Goals as goal

pub returns : goal.returns
unfolding span climb size odd units round neg sum add mul div lt is_nan float_with_sign
returns c = record {
  two_into_six = refl;
  four_into_six = refl;
  roots_found = refl;
  roots_fraction = refl;
  roots_row = refl;
  update_row = refl;
  transpose_sum = refl;
  transpose_row = refl;
  product_row = refl;
  eight_pass = refl;
  nine_refused = refl;
  order_six = refl;
  order_six_step = refl;
  scatter_first = refl;
  scatter_second = refl;
  gather_first = refl;
  gather_second = refl;
}

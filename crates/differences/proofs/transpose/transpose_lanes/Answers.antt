use Rattle.std.proofs.Common.{◌+◌, refl, ◌∙◌, arith}
use Rattle.product.specs.Results.{row_of}
use Rattle.differences.specs.Transposes.{row_for}
use Rattle.differences.proofs.TransposeLaws.{transposed_sums, transposed_negated, transposed_cleared, ones_sum}
use Rattle.differences.proofs.transpose.transpose_lanes.Goals as goal

pub returns-clause-sums : goal.returns-clause-sums
returns-clause-sums g c = λ e.
    let s = g.S.Scalar in
    let k = c.args.order in
    let row = row_of s.means s.ops c.args.t c.args.ts.now in
    let sum = c.sum_columns.ensures in
    let columns = c.multiply_lanes.ensures in
    let r = g.met.S.Scalar.ring e in
    record {
      sums = λ b j i d w h. columns.written b j i d w (omega arith, omega arith) ∙ transposed_sums s.ops r (row b i) k j h;
      negated = λ b i d w. columns.written b (k + 1) i d w (omega arith, omega arith) ∙ transposed_negated s.ops r (row b i) k;
      cleared = λ b i d w. columns.written b (k + 2) i d w (omega arith, omega arith) ∙ transposed_cleared s.ops r (row b i) k;
      sum_in_d = λ b i d w. sum.written b c.args.d.col i d w refl ∙ ones_sum s.ops r g.met.S.Scalar.zero_is_zero (row_for s.means s.ops c.args.t c.args.ts.now c.args.d b i) (k + 3) (omega arith);
    }

use Rattle.std.proofs.Common.{T, sym, ap, ◌∙◌, subst, eq-eqb, eqb-true}
use lib.Ieee.{binary64, to_bits}
use Rattle.scalar.specs.FloatValues.{same_bits}
use Rattle.scalar.proofs.floats.F64Ordered.equal.Goals as goal

pub returns : goal.returns
returns c =
    let a = c.f64_to_bits_with_nan.ensures in
    let b = c.f64_to_bits_with_nan-2.ensures in (
      λ e. same_bits binary64 c.args.self c.args.other (subst T (sym c.well_formed.0.1) tt) (subst T (sym c.well_formed.1.0.1) tt) (sym a ∙ eqb-true _ _ e ∙ b),
      λ e. eq-eqb _ _ (a ∙ ap (to_bits binary64) e ∙ sym b),
    )

-- Each lane's two pairings are one number, since the backward run is the transpose of the forward run. Assumes nothing.
use Rattle.std.proofs.Common.{◌≡◌, ℕ, ◌^◌, List, ap, lit<}
use Rattle.scalar.specs.Modular.{modulus}
use Rattle.scalar.specs.ModularRing.{modular_ring}
use Rattle.steps.proofs.Transposes.{runs_transposed}
use Rattle.exact.specs.Values.{wrap_value, residue_value}
use Rattle.reader.specs.declared.program.Ring.{Ring}
use Rattle.reader.specs.declared.program.Ring.TheVariants.{Wrap, Residue}
use Rattle.reader.specs.Grammar.{Line}
use Rattle.reader.specs.Said.{ring_in, shape_in}
use Rattle.reader.specs.Judged.{judged}
use Rattle.text.specs.Answers.{steps, state, weights, lane_after, lane_before, PairingsAgree}

agree : (x : Ring) (ls : List Line) (b : ℕ) → lane_after x ls b ≡ lane_before x ls b
agree Wrap ls b =
    ap (λ m. m.number)
    ((runs_transposed (modular_ring (2 ^ 64) (lit< tt))).pairings (shape_in ls).rows (shape_in ls).cols (steps wrap_value ls) (state wrap_value ls b) (weights wrap_value ls b))
agree Residue ls b =
    ap (λ m. m.number)
    ((runs_transposed (modular_ring modulus (lit< tt))).pairings (shape_in ls).rows (shape_in ls).cols (steps residue_value ls) (state residue_value ls b) (weights residue_value ls b))

pub pairings_agree_lem : (text : List ℕ) → PairingsAgree text
pairings_agree_lem text none b = agree (ring_in (judged text).lawful) (judged text).lawful b

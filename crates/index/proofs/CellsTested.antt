-- What an accepted index call on tables knows of its operands and its lists. Assumes nothing.
use Rattle.std.proofs.Common.{◌≡◌, ℕ, ◌<◌, ◌≤◌, List, length, get_or, refl, arith}
use Rattle.std.proofs.lemmas.List.{length-take, get_or-take}
use Rattle.std.proofs.lemmas.Bool.{or_parts, leb-false}
use Rattle.shape.specs.Refusals.{first_of}
use Rattle.shape.specs.declared.operand.TableShape.{TableShape}
use Rattle.shape.specs.declared.operand.Column.{Column}
use Rattle.shape.proofs.Verdicts.{clear, shapes_clear}
use Rattle.index.specs.Indices.{outside}
use Rattle.index.specs.Tables.{lane_cells, paired, pairs_tests, PairsLawful}
use Rattle.index.proofs.Tested.{inside_of}

-- two lists of pairs are cut to the same length
pub pairs_long : (a b : List ℕ) → length (paired a b) ≤ length b
pairs_long a b = simp length-take (omega arith)

pairs_both : (a b : List ℕ) → length (paired a b) ≡ length (paired b a)
pairs_both a b = simp length-take (omega arith)

pub pairs_passed : (dst src : List ℕ) (v : Column) (vl : ℕ) (t : TableShape) (tl : ℕ) → first_of (pairs_tests dst src v vl t tl) ≡ 0 → PairsLawful dst src v vl t tl
pairs_passed dst src v vl t tl e =
    let p = clear (pairs_tests dst src v vl t tl) refl e in
    let fit = shapes_clear v.of vl t tl p.0 p.1.0 p.1.1.0 in
    let q = p.1.1.1 in
    let r = or_parts (outside (lane_cells t) (paired dst src)) (outside v.of.rows (paired src dst)) q.1.1.0 in
    record {
      source = record { fits = fit.0; within = leb-false v.of.cols v.col q.0 };
      target = fit.1;
      inside = inside_of (lane_cells t) (paired dst src) r.0;
      rows = λ k h.
          let here : get_or (paired src dst) k 0 < v.of.rows = inside_of v.of.rows (paired src dst) r.1 k (omega (arith, pairs_both dst src)) in
          let below : k < length dst = omega (arith, pairs_long src dst, pairs_both dst src) in
          rw (get_or-take (length dst) src k 0 below) at here;
    }

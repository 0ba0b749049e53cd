-- Where the run of a source starts that a destination's lane reads. Assumes nothing.
use Rattle.std.proofs.Common.{◌≡◌, ℕ, ◌+◌, ◌<◌, ◌≤◌, ap, ◌∙◌, arith}
use Rattle.shape.specs.Shapes.{start, Lawful}
use Rattle.shape.specs.Lanes.{lane_for}
use Rattle.shape.specs.declared.operand.Column.{Column}
use Rattle.shape.proofs.Blocks.{band_fits, lane_below}

-- where the run of column v starts that lane b of n reads, after a call of `lane_for` and one of `start`
module _ (v : Column) (len n b read a : ℕ) (law : Lawful v len) (l : b < n) (few : n ≤ 4096)
    (found : b < n → n ≤ 4096 → v.of.lanes ≤ 4096 → read ≡ lane_for b v.of.lanes n)
    (starts : (len : ℕ) → Lawful v len → read < v.of.lanes → a ≡ start v.of read v.col) where
  which : read ≡ lane_for b v.of.lanes n
  which = found l few law.fits.few_lanes

  below : read < v.of.lanes
  below = rw which (lane_below b v.of.lanes n law.fits.some l)

  pub reads_from : a ≡ start v.of (lane_for b v.of.lanes n) v.col
  reads_from = starts len law below ∙ ap (λ z. start v.of z v.col) which

  pub reads_within : a + v.of.rows ≤ len
  reads_within =
      let e = starts len law below in
      let f = band_fits v.of len read v.col 1 law.fits below (omega (arith, law.within)) in
      omega arith

-- A row that both columns have passes the tests of a copy of it. Assumes nothing.
use Rattle.std.proofs.Common.{◌≡◌, ℕ, ◌<◌, false, ◌||◌, leb, [], ◌∷◌, refl}
use Rattle.std.proofs.lemmas.Bool.{or_from, lt-leb}
use Rattle.shape.specs.Shapes.{Lawful}
use Rattle.shape.specs.Refusals.{first_of}
use Rattle.shape.specs.declared.operand.Column.{Column}
use Rattle.shape.proofs.Passes.{none_fits, same_lanes, both_sound, columns_there}
use Rattle.index.specs.Calls.{copy_tests}

pub copy_passes : (x : Column) (xl : ℕ) (y : Column) (yl k : ℕ) → Lawful x xl → Lawful y yl → k < x.of.rows → k < y.of.rows → x.of.lanes ≡ y.of.lanes
    → first_of (copy_tests x xl (k ∷ []) y yl) ≡ 0
copy_passes x xl y yl k source target h h' lanes =
    let in-x = or_from (leb x.of.rows k) false (lt-leb x.of.rows k h) refl in
    let in-y = or_from (leb y.of.rows k) false (lt-leb y.of.rows k h') refl in
    let two = both_sound x.of xl y.of yl source.fits target.fits in
    let rows = or_from (leb x.of.rows k || false) (leb y.of.rows k || false) in-x in-y in
    none_fits (copy_tests x xl (k ∷ []) y yl)
    (two.lanes, (two.large, (two.size, (columns_there x xl y yl source target, (same_lanes x.of.lanes y.of.lanes lanes, (rows, tt))))))

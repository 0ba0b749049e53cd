use Rattle.std.proofs.Common.{◌≡◌, ℕ, ◌+◌, ◌-◌, length, sym, ap, ap₂, ◌∙◌, inl, inr, arith}
use Rattle.std.proofs.lemmas.Bool.{cases_eq}
use Rattle.scalar.specs.Sums.{at}
use Rattle.scalar.proofs.Stored.{at_is, at_part}
use Rattle.shape.specs.Shapes.{start, cell, In}
use Rattle.shape.specs.Changes.{Changed, LaneBand, meant}
use Rattle.shape.proofs.Blocks.{band_fits, cell_fits}
use Rattle.shape.proofs.Parts.{length_part}
use Rattle.shape.proofs.Cells.{changed_as, changed_more}
use Rattle.product.specs.Results.{row_of}
use Rattle.differences.specs.Updates.{cell_updated_by}
use Rattle.product.proofs.Entries.{cell_kept}
use Rattle.differences.proofs.Pieces.{column_start, start_next, column_changed}
use Rattle.differences.proofs.RowLaws.{accumulated_updated, updated_last}
use Rattle.differences.proofs.update.update_lane.Goals as goal

pub difference_run-requires : goal.difference_run-requires
difference_run-requires g c =
    let t = c.args.t in
    let len = length c.args.ts.now in
    let lane = c.args.lane in
    let k = c.args.order in
    let to = column_start t len lane (k + 2) c.start-to.result c.column.result c.column.ensures c.start-to.ensures c.requires.fits c.requires.lane c.requires.within in
    let less = column_start t len lane (k + 1) c.start-before.result c.column-2.result c.column-2.ensures c.start-before.ensures c.requires.fits c.requires.lane (omega arith) in
    let next : start t lane (k + 1 + 1) ≡ start t lane (k + 1) + t.rows = start_next t lane (k + 1) in
    let same : start t lane (k + 1 + 1) ≡ start t lane (k + 2) = let e : k + 1 + 1 ≡ k + 2 = omega arith in ap (start t lane) e in
    let f = band_fits t len lane (k + 2) 1 c.requires.fits c.requires.lane (omega arith) in
    let long = length_part c.args.ds.now c.args.from t.rows c.requires.source in
    record { apart = omega arith; fits = omega arith }

pub returns : goal.returns
returns g c =
    let s = g.S.Scalar in
    let t = c.args.t in
    let k = c.args.order in
    let lane = c.args.lane in
    let old = c.args.ts.now in
    let mid = c.difference_run.new.ts in
    let ds = c.args.ds.now in
    let to = column_start t (length old) lane (k + 2) c.start-to.result c.column.result c.column.ensures c.start-to.ensures c.requires.fits c.requires.lane c.requires.within in
    let less = column_start t (length old) lane (k + 1) c.start-before.result c.column-2.result c.column-2.ensures c.start-before.ensures c.requires.fits c.requires.lane (omega arith) in
    let new = cell_updated_by s.means s.ops t k ds c.args.from old in
    let before : (b i : ℕ) → b ≡ lane → at s.means s.ops old (c.start-before.result + i) ≡ row_of s.means s.ops t old b i (k + 1) =
    λ b i e. ap (λ z. at s.means s.ops old (z + i)) less ∙ ap (λ z. at s.means s.ops old (cell t z (k + 1) i)) (sym e) in
    let last : Changed t (LaneBand lane (k + 2) 1) (meant s.means new) old mid =
    changed_as t (LaneBand lane (k + 2) 1) (LaneBand lane (k + 2) 1) _ _ old mid (λ b j i w h. h) (λ b j i w h. h)
    (λ b j i v w h q.
    let column : j ≡ k + 2 = omega arith in
    q ∙ ap₂ (λ y z. s.ops.plus y (s.ops.minus z)) (at_part s.means s.ops c.args.from t.rows i ds c.requires.source w.row) (before b i h.0)
    ∙ sym (updated_last s.ops (row_of s.means s.ops t old b i) (at s.means s.ops ds (c.args.from + i)) k)
    ∙ ap (λ z. new b z i) (sym column))
    (column_changed t lane (k + 2) c.start-to.result _ old mid to c.requires.within (rw (length_part ds c.args.from t.rows c.requires.source) at c.difference_run.ensures)) in
    changed_more t (LaneBand lane (k + 2) 1) (LaneBand lane 0 (k + 2 - 0)) (LaneBand lane 0 (k + 3)) (meant s.means new) _ old mid c.accumulate_lane.new.ts
    (λ b j i w h. elim (cases_eq j (k + 2)) [ inl e ↦ inr ((λ x. omega arith), (h.0, omega arith, omega arith)) | inr ne ↦ inl (h.0, omega arith, omega arith) ])
    (λ b j i h. (h.0, omega arith, omega arith))
    (λ b j i w h. (h.0, omega arith, omega arith))
    (λ b j i v w h q.
    let x = row_of s.means s.ops t old b i in
    let d = at s.means s.ops ds (c.args.from + i) in
    let there : In t b (k + 2) i = record { lane = w.lane; col = c.requires.within; row = w.row } in
    let fits = cell_fits t (length old) b (k + 2) i c.requires.fits there in
    q ∙ accumulated_updated s.ops x (row_of s.means s.ops t mid b i) d k j
    (at_is s.means s.ops mid (cell t b (k + 2) i) _ (omega (arith, c.difference_run.auto.ts)) (λ e. last.written b (k + 2) i e there (h.0, omega arith, omega arith)) ∙ updated_last s.ops x d k)
    (λ l n. cell_kept s.means s.ops t (LaneBand lane (k + 2) 1) _ old mid c.requires.fits c.difference_run.auto.ts last b l i (record { lane = w.lane; col = omega arith; row = w.row }) (λ z. omega arith))
    (omega arith))
    last
    c.accumulate_lane.ensures

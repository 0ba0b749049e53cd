use Rattle.std.proofs.Common.{◌≡◌, ◌+◌, ◌-◌, length, sym, ap, ◌∙◌, inl, inr, arith}
use Rattle.std.proofs.lemmas.Bool.{cases_eq}
use Rattle.scalar.specs.Sums.{at}
use Rattle.shape.specs.Shapes.{cell}
use Rattle.shape.specs.Changes.{LaneBand}
use Rattle.shape.proofs.Blocks.{band_fits}
use Rattle.shape.proofs.Cells.{changed_more}
use Rattle.differences.specs.Updates.{cell_accumulated}
use Rattle.differences.proofs.Pieces.{column_start, start_next, column_changed}
use Rattle.differences.proofs.UpdateLaws.{gained_means}
use Rattle.differences.proofs.update.gain_column.Goals as goal

pub gain_run-requires : goal.gain_run-requires
gain_run-requires g c =
    let t = c.args.t in
    let len = length c.args.ts.now in
    let to = column_start t len c.args.lane c.args.j c.start-to.result c.column.result c.column.ensures c.start-to.ensures c.requires.fits c.requires.lane (omega arith) in
    let from = column_start t len c.args.lane (c.args.j + 1) c.start-from.result c.column-2.result c.column-2.ensures c.start-from.ensures c.requires.fits c.requires.lane c.requires.within in
    let next = start_next t c.args.lane c.args.j in
    let f = band_fits t len c.args.lane (c.args.j + 1) 1 c.requires.fits c.requires.lane (omega arith) in
    record { apart = omega arith; fits = omega arith }

pub returns : goal.returns
returns g c = λ n m old before next less len.
    let s = g.S.Scalar in
    let t = c.args.t in
    let lane = c.args.lane in
    let j = c.args.j in
    let cur = c.args.ts.now in
    let to = column_start t (length cur) lane j c.start-to.result c.column.result c.column.ensures c.start-to.ensures c.requires.fits c.requires.lane (omega arith) in
    let from = column_start t (length cur) lane (j + 1) c.start-from.result c.column-2.result c.column-2.ensures c.start-from.ensures c.requires.fits c.requires.lane c.requires.within in
    changed_more t (LaneBand lane m (n - m)) (LaneBand lane j 1) (LaneBand lane j (n - j)) _ _ old cur c.gain_run.new.ts
    (λ b l i w h. elim (cases_eq l j) [ inl e ↦ inl (h.0, omega arith, omega arith) | inr ne ↦ inr ((λ x. omega arith), (h.0, omega arith, omega arith)) ])
    (λ b l i h. (h.0, omega arith, omega arith))
    (λ b l i w h. (h.0, omega arith, omega arith))
    (λ b l i v w h q.
    let column : l ≡ j = omega arith in
    let gained = gained_means s.means s.ops t lane n m old cur (rw len at c.requires.fits) len before j i next (omega arith) (record { lane = c.requires.lane; col = omega arith; row = w.row }) (omega arith) in
    let here : s.means v ≡ cell_accumulated s.means s.ops t n old lane j i =
    q ∙ ap (λ z. s.ops.plus (at s.means s.ops cur (z + i)) (at s.means s.ops cur (c.start-from.result + i))) to
    ∙ ap (λ z. s.ops.plus (at s.means s.ops cur (cell t lane j i)) (at s.means s.ops cur (z + i))) from
    ∙ ap (λ z. s.ops.plus (at s.means s.ops cur (cell t lane j i)) (at s.means s.ops cur (cell t lane z i))) (sym next)
    ∙ gained in
    rw (h.0, column) here)
    before
    (column_changed t lane j c.start-to.result _ cur c.gain_run.new.ts to (omega arith) c.gain_run.ensures)

use Rattle.std.proofs.Common.{◌≡◌, ℕ, ◌+◌, ◌*◌, ◌<◌, sym, ap, ◌∙◌, subst}
use Rattle.shape.specs.Shapes.{In, cell as cell_of}
use Rattle.shape.specs.declared.operand.TableShape.{TableShape}
use Rattle.reader.specs.Said.{memory_shape}
use Rattle.reader.specs.Held.{base}
use Rattle.reader.proofs.Holding.{base_fits, cell_low, inside_of}
use Rattle.reader.proofs.program.Program.place_of.Goals as goal

pub returns : goal.returns
returns c =
    let p = c.args.self.now in
    let m = c.args.memory in
    let x = c.args.x in
    let w : In (memory_shape p.shape m) x.lane x.col x.row = subst (λ (t : TableShape). In t x.lane x.col x.row) c.memory_shape-t.ensures (record { lane = c.if-x-t.false; col = c.if-x-t-2.false; row = c.if-x-t-3.false }) in
    let low = cell_low p.shape p.lawful p.table_fits p.vector_fits m x.lane x.col x.row w in
    let place : c.memory_number.result * 1024 + cell_of c.memory_shape-t.result x.lane x.col x.row ≡ base m + cell_of (memory_shape p.shape m) x.lane x.col x.row =
    ap (λ (n : ℕ). n * 1024 + cell_of c.memory_shape-t.result x.lane x.col x.row) c.memory_number.ensures ∙ ap (λ (t : TableShape). base m + cell_of t x.lane x.col x.row) c.memory_shape-t.ensures in
    (inside_of (memory_shape p.shape m) x.lane x.col x.row w, (place, (low, subst (λ (n : ℕ). n < 6144) (sym place) (base_fits m _ low))))

use Rattle.std.proofs.Common.{◌≡◌, ◌≤◌, length, set, Some, sym, refl, ap, arith, w64, SFits, to_z, of_z, rules}
use Rattle.std.proofs.lemmas.Int.{to_z-of_z}
use Rattle.reader.proofs.Holding.{Long, of_form, fine_cell, held_cell}
use Rattle.reader.specs.Grammar.Line.{cell}
use Rattle.reader.proofs.program.Program.cell_line.Goals as goal

pub returns : goal.returns
returns c ls h l =
    let p = c.args.self.now in
    let x = c.in-Some.x in
    let g = c.in-Some-place_of.ensures in
    let long : length p.cells ≡ 6144 = search rules in
    let arrays : Long p = record { steps = search rules; numbers = search rules; indices = search rules } in
    let fit : to_z w64 (of_z w64 x.value) ≡ x.value = (let s : SFits w64 x.value = search rules in to_z-of_z w64 x.value s) in
    let two : 2 ≤ length ls = omega arith in
    of_form ls _ (Some (cell c.args.memory x.lane x.col x.row x.value)) _ _ (sym c.in-Some.ensures)
    (
    record {
      number = fine_cell ls p h arrays c.args.memory x.lane x.col x.row x.value two (omega arith) g.0;
      held = held_cell ls p _ c.args.memory x.lane x.col x.row x.value c.in-Some-place_of.k h two long g.1.1.0 g.1.0 refl refl (ap (set p.cells c.in-Some-place_of.k) fit) refl refl refl refl refl refl;
    }
    )

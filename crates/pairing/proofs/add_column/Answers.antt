use Rattle.std.proofs.Common.{length, arith}
use Rattle.shape.proofs.Blocks.{band_fits}
use Rattle.pairing.proofs.add_column.Goals as goal

pub add_part-requires : goal.add_part-requires
add_part-requires g c =
    let v = c.args.v in
    let xl = length c.args.xs.now in
    let yl = length c.args.ys.now in
    let from = c.start.ensures xl (record { fits = c.requires.entries; within = c.requires.column }) c.requires.lane in
    let x = band_fits v.of xl c.args.lane v.col 1 c.requires.entries c.requires.lane (omega (arith, c.requires.column)) in
    let y = band_fits v.of yl c.args.lane v.col 1 c.requires.weights c.requires.lane (omega (arith, c.requires.column)) in
    record { entries = omega arith; weights = omega arith }

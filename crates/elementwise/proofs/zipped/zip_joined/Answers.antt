use Rattle.std.proofs.Common.{◌≡◌, ◌*◌, length, ap, ◌∙◌, arith}
use Rattle.shape.specs.Shapes.{start}
use Rattle.elementwise.proofs.Bands.{run_size}
use Rattle.elementwise.proofs.Runs.{entries, entries_fit, joined_changed}
use Rattle.elementwise.proofs.zipped.zip_joined.Goals as goal

pub zip_part-requires : goal.zip_part-requires
zip_part-requires g c =
    let x = c.args.x in
    let y = c.args.y in
    let xl = length c.args.xs.now in
    let yl = length c.args.ys.now in
    let law = c.requires.lawful in
    let from : c.start.result ≡ start x.of 0 x.first = c.start.ensures xl law.source (omega (arith, law.source_within)) law.source.some in
    let to : c.start-2.result ≡ start y.of 0 y.first = c.start-2.ensures yl law.target (omega (arith, law.target_within)) law.target.some in
    let same : entries x ≡ entries y = ap (λ z. z * x.of.lanes) (run_size x xl y yl law) ∙ ap (λ z. y.count * y.of.rows * z) c.requires.lanes in
    record {
      source = omega (arith, entries_fit x law.source_within c.requires.source xl law.source);
      target = omega (arith, entries_fit y law.target_within c.requires.target yl law.target);
    }

pub returns : goal.returns
returns g c =
    let x = c.args.x in
    let y = c.args.y in
    let xl = length c.args.xs.now in
    let yl = length c.args.ys.now in
    let law = c.requires.lawful in
    let from : c.start.result ≡ start x.of 0 x.first = c.start.ensures xl law.source (omega (arith, law.source_within)) law.source.some in
    let to : c.start-2.result ≡ start y.of 0 y.first = c.start-2.ensures yl law.target (omega (arith, law.target_within)) law.target.some in
    joined_changed (g.R.Rule.made c.args.rule) x y xl yl c.start.result c.start-2.result c.args.xs.now c.args.ys.now _ law c.requires.lanes c.requires.source c.requires.target from to
    c.zip_part.ensures

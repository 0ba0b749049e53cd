use Rattle.steps.proofs.Chains.{chains_transposed, chains_apart}
use Rattle.state.specs.Memory.{lane_of}
use Rattle.sweep.proofs.script.laws_of_runs.Goals as goal

pub returns : goal.returns
returns g c =
    let s = g.S.Scalar in
    let t = c.args.t in
    record {
      transposed = λ e. chains_transposed s.ops t.rows t.cols t.lanes (lane_of s.means s.ops t) (g.met.S.Scalar.ring e);
      apart = chains_apart s.ops t.rows t.cols t.lanes (lane_of s.means s.ops t);
    }

use Rattle.std.proofs.Common.{◌≡◌, ◌<◌, map, length, get_or, set, ap, ◌∙◌, arith}
use Rattle.std.proofs.lemmas.List.{map-set, length-map}
use Rattle.std.proofs.lemmas.List.Edits.{fill_by_more}
use Rattle.state.specs.Memory.{shown}
use Rattle.pairing.specs.Pairings.{lane_pairing}
use Rattle.pairing.proofs.pair_lanes.Goals as goal

pub loop-lane-preserved : goal.loop-lane-preserved
loop-lane-preserved g c =
    let s = g.S.Scalar in
    let a = c.args in
    let k = c.loop-lane.lane in
    let old = c.loop-lane.sums in
    let x = c.pair_lane.result in
    let f = lane_pairing s.means s.ops a.t (shown a.state) (shown a.weights) in
    let put : map s.means (set old k x) ≡ set (map s.means old) k (f k) = map-set s.means old k x ∙ ap (set (map s.means old) k) c.pair_lane.ensures in
    let long : k < length (map s.means old) = omega (arith, length-map old s.means) in
    λ b h. ap (λ ms. get_or ms b s.ops.zero) put ∙ fill_by_more f (map s.means old) k s.ops.zero long c.loop-lane.invariant b h

use Rattle.std.proofs.Common.{◌*◌, drop, map, refl, arith, ◌∙◌}
use Rattle.std.proofs.lemmas.Simd.{pick_l_left, length-chunk}
use Rattle.std.specs.List.{range_with_len}
use lib.Lanes.{chunk}
use Rattle.pybuf_lanes.proofs.Steps.{of_first}
use Rattle.pybuf_lanes.proofs.gathers.halved_at.Goals as goal

pub returns : goal.returns
returns c =
    let bytes = c.args.source.now in
    let lanes = map (λ k. 2 * k) (range_with_len 0 16) in
    let front = chunk c.args.at 32 bytes in
    pick_l_left 0 front front 32 lanes (length-chunk c.args.at 32 bytes (omega arith)) tt ∙ of_first 32 (drop c.args.at bytes) lanes refl

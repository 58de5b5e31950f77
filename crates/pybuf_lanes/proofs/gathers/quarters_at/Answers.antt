use Rattle.std.proofs.Common.{◌*◌, drop, map, refl, ◌∙◌}
use Rattle.std.specs.List.{range_with_len}
use Rattle.pybuf_lanes.proofs.Steps.{of_first}
use Rattle.pybuf_lanes.proofs.gathers.quarters_at.Goals as goal

pub returns : goal.returns
returns c = c.low_lanes.ensures ∙ of_first 64 (drop c.args.at c.args.source.now) (map (λ k. 4 * k) (range_with_len 0 16)) refl

use Rattle.std.proofs.Common.{ap, ◌∙◌}
use Rattle.std.specs.List.{prefix_len}
use Rattle.pybuf_lanes.specs.Blanks.{is_blank}
use Rattle.pybuf_lanes.proofs.Runs.{lanes_turned}
use Rattle.pybuf_lanes.proofs.blanks.trailing_lanes.Goals as goal

pub returns : goal.returns
returns c = c.leading_lanes.ensures ∙ ap (prefix_len is_blank) (lanes_turned c.args.lanes c.fits-lanes.0)

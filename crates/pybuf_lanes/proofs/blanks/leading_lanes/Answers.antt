use Rattle.std.proofs.Common.{sym, ap, arith, ◌∙◌}
use lib.Count.{count_trailing_zeros}
use Rattle.pybuf_lanes.specs.Blanks.{is_blank}
use Rattle.pybuf_lanes.proofs.Runs.{no_lane_fails, some_lane_fails}
use Rattle.pybuf_lanes.proofs.blanks.leading_lanes.Goals as goal

pub returns-then-others-eq0 : goal.returns-then-others-eq0
returns-then-others-eq0 c = sym c.fits-lanes.0 ∙ no_lane_fails is_blank c.args.lanes (sym c.other_mask-others.ensures ∙ c.if-others-eq0.true)

pub returns-else-others-eq0 : goal.returns-else-others-eq0
returns-else-others-eq0 c =
    ap (count_trailing_zeros 64) c.other_mask-others.ensures
    ∙ some_lane_fails is_blank c.args.lanes (omega (arith, c.fits-lanes.0)) (omega (arith, c.other_mask-others.ensures))

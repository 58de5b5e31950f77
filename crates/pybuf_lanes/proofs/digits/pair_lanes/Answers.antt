use Rattle.pybuf_lanes.proofs.DigitPairs.{digits_in_pairs}
use Rattle.pybuf_lanes.proofs.digits.pair_lanes.Goals as goal

pub returns : goal.returns
returns c =
    digits_in_pairs _ _ _ _ _ c.fits-bytes.0 c.high_lanes.ensures.value c.low_lanes.ensures.value c.digit_lanes-high.ensures c.digit_lanes-low.ensures

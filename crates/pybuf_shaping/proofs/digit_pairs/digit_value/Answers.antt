use Rattle.std.proofs.Common.{arith}
use Rattle.pybuf_shaping.proofs.DigitValues.{value_of_digit, printed_digit}
use Rattle.pybuf_shaping.proofs.digit_pairs.digit_value.Goals as goal

pub returns-clause-value : goal.returns-clause-value
returns-clause-value c = value_of_digit c.args.digit (omega (arith, c.ranges.digit.fits))

pub returns-clause-printed : goal.returns-clause-printed
returns-clause-printed c = printed_digit c.args.digit (omega (arith, c.ranges.digit.fits))

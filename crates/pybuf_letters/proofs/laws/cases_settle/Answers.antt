use Rattle.pybuf_letters.proofs.CaseLaws.{lower-of_lower, upper-of_upper, swapcase-of_swapcase}
use Rattle.pybuf_letters.proofs.laws.cases_settle.Goals as goal

pub returns : goal.returns
returns c = record { lower = lower-of_lower; upper = upper-of_upper; swapcase = swapcase-of_swapcase }

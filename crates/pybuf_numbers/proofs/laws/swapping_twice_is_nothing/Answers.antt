use Rattle.pybuf_numbers.proofs.Again.{swap_back}
use Rattle.pybuf_numbers.proofs.laws.swapping_twice_is_nothing.Goals as goal

pub returns : goal.returns
returns c = swap_back

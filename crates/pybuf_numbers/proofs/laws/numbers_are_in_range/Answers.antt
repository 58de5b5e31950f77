use Rattle.pybuf_numbers.proofs.Again.{numbers_fit}
use Rattle.pybuf_numbers.proofs.laws.numbers_are_in_range.Goals as goal

pub returns : goal.returns
returns c = numbers_fit

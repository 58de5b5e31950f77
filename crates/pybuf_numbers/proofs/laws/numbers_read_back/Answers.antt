use Rattle.pybuf_numbers.proofs.Again.{numbers_back}
use Rattle.pybuf_numbers.proofs.laws.numbers_read_back.Goals as goal

pub returns : goal.returns
returns c = numbers_back

use Rattle.pybuf_numbers.proofs.Again.{bytes_back}
use Rattle.pybuf_numbers.proofs.laws.bytes_read_back.Goals as goal

pub returns : goal.returns
returns c = bytes_back

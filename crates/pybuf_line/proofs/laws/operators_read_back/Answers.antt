use Rattle.pybuf_line.proofs.NameLaws.{operators_read}
use Rattle.pybuf_line.proofs.laws.operators_read_back.Goals as goal

pub returns : goal.returns
returns c = operators_read

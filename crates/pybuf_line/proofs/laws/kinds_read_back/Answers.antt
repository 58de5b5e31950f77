use Rattle.pybuf_line.proofs.NameLaws.{kinds_read}
use Rattle.pybuf_line.proofs.laws.kinds_read_back.Goals as goal

pub returns : goal.returns
returns c = kinds_read

use Rattle.pybuf_line.proofs.ValueLaws.{values_read}
use Rattle.pybuf_line.proofs.laws.values_read_back.Goals as goal

pub returns : goal.returns
returns c = values_read

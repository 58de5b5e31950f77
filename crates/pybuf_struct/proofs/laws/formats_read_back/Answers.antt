use Rattle.pybuf_struct.proofs.ReadBack.{formats_again}
use Rattle.pybuf_struct.proofs.laws.formats_read_back.Goals as goal

pub returns : goal.returns
returns c = formats_again

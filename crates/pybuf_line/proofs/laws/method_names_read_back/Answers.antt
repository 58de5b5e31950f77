use Rattle.pybuf_line.proofs.NameLaws.{methods_read}
use Rattle.pybuf_line.proofs.laws.method_names_read_back.Goals as goal

pub returns : goal.returns
returns c = methods_read

use Rattle.pybuf_line.proofs.NameLaws.{properties_read}
use Rattle.pybuf_line.proofs.laws.property_names_read_back.Goals as goal

pub returns : goal.returns
returns c = properties_read

use Rattle.pybuf_line.proofs.NameLaws.{words_read}
use Rattle.pybuf_line.proofs.laws.words_read_back.Goals as goal

pub returns : goal.returns
returns c = words_read

use Rattle.pybuf_line.proofs.SpellingLaws.{scalars_read}
use Rattle.pybuf_line.proofs.laws.scalars_read_back.Goals as goal

pub returns : goal.returns
returns c = scalars_read

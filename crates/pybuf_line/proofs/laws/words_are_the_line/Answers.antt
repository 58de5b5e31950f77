use Rattle.pybuf_line.proofs.LineLaws.{words_join}
use Rattle.pybuf_line.proofs.laws.words_are_the_line.Goals as goal

pub returns : goal.returns
returns c = words_join

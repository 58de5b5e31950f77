use Rattle.pybuf_line.proofs.LineLaws.{lines_join, lines_single}
use Rattle.pybuf_line.proofs.laws.lines_are_the_input.Goals as goal

pub returns-clause-joined : goal.returns-clause-joined
returns-clause-joined c = lines_join

pub returns-clause-single : goal.returns-clause-single
returns-clause-single c = lines_single

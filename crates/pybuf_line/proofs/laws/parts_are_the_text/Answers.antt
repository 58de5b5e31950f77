use Rattle.pybuf_line.proofs.SpellingLaws.{parts_join, parts_single}
use Rattle.pybuf_line.proofs.laws.parts_are_the_text.Goals as goal

pub returns-clause-joined : goal.returns-clause-joined
returns-clause-joined c = parts_join

pub returns-clause-single : goal.returns-clause-single
returns-clause-single c = parts_single

use Rattle.pybuf_line.proofs.SpellingLaws.{enclosed_there, enclosed_read}
use Rattle.pybuf_line.proofs.laws.enclosed_is_between.Goals as goal

pub returns-clause-there : goal.returns-clause-there
returns-clause-there c = enclosed_there

pub returns-clause-read : goal.returns-clause-read
returns-clause-read c = enclosed_read

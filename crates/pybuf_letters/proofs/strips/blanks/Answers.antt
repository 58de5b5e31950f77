use Rattle.pybuf_letters.proofs.ByteClasses.{is_in-blanks}
use Rattle.pybuf_letters.proofs.strips.blanks.Goals as goal

pub returns : goal.returns
returns c = is_in-blanks

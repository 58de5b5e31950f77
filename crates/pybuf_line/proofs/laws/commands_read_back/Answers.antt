use Rattle.pybuf_line.proofs.CommandLaws.{commands_read}
use Rattle.pybuf_line.proofs.laws.commands_read_back.Goals as goal

pub returns : goal.returns
returns c = commands_read

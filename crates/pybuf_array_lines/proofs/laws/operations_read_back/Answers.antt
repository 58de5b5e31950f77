use Rattle.pybuf_array_lines.proofs.ReadBack.{operations_read}
use Rattle.pybuf_array_lines.proofs.laws.operations_read_back.Goals as goal

pub returns : goal.returns
returns c = operations_read c.values_read_back.ensures c.commands_read_back.ensures

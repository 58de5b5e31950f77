use Rattle.pybuf_struct.proofs.Spelled.{are_allowed}
use Rattle.pybuf_struct.proofs.laws.codes_are_allowed.Goals as goal

pub returns : goal.returns
returns c = are_allowed

use Rattle.pybuf_struct.proofs.Natives.{are_spelled}
use Rattle.pybuf_struct.proofs.laws.native_codes_are_spelled.Goals as goal

pub returns : goal.returns
returns c = are_spelled

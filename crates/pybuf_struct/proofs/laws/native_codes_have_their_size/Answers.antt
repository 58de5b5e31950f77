use Rattle.pybuf_struct.proofs.Natives.{have_their_size}
use Rattle.pybuf_struct.proofs.laws.native_codes_have_their_size.Goals as goal

pub returns : goal.returns
returns c = have_their_size

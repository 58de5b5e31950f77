use Rattle.pybuf_world.proofs.Faults.{no_struct_error}
use Rattle.pybuf_world.proofs.laws.no_reply_is_a_struct_error.Goals as goal

pub returns : goal.returns
returns c = no_struct_error c.struct_error_is_never_replied.ensures

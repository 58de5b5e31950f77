use Rattle.pybuf_world.proofs.Refusals.{refusals_leave_all}
use Rattle.pybuf_world.proofs.laws.refusals_change_nothing.Goals as goal

pub returns : goal.returns
returns c = refusals_leave_all c.refused_commands_change_nothing.ensures

use Rattle.pybuf_world_forgetting.proofs.Worlds.{run_alike}
use Rattle.pybuf_world_forgetting.proofs.laws.worlds_that_forget_alike_run_alike.Goals as goal

pub returns : goal.returns
returns c = run_alike c.forgetting_changes_no_world_reply.ensures

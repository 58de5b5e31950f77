use Rattle.pybuf_forgetting.proofs.Steps.{no_run}
use Rattle.pybuf_forgetting.proofs.laws.forgetting_changes_no_run.Goals as goal

pub returns : goal.returns
returns c = no_run

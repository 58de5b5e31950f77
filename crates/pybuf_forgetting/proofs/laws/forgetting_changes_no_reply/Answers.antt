use Rattle.pybuf_forgetting.proofs.Steps.{no_step, no_step_by_names}
use Rattle.pybuf_forgetting.proofs.laws.forgetting_changes_no_reply.Goals as goal

pub returns-clause-loans : goal.returns-clause-loans
returns-clause-loans c = no_step

pub returns-clause-names : goal.returns-clause-names
returns-clause-names c = no_step_by_names

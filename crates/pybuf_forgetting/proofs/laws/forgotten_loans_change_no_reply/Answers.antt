use Rattle.pybuf_forgetting.proofs.Steps.{no_loan, subject_snap}
use Rattle.pybuf_forgetting.proofs.laws.forgotten_loans_change_no_reply.Goals as goal

pub returns-clause-loans : goal.returns-clause-loans
returns-clause-loans c = no_loan

pub returns-clause-snaps : goal.returns-clause-snaps
returns-clause-snaps c = subject_snap

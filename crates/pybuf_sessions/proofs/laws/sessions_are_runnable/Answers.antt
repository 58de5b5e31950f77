use Rattle.pybuf_sessions.proofs.Runnable.{sessions_runnable}
use Rattle.pybuf_sessions.proofs.laws.sessions_are_runnable.Goals as goal

pub returns : goal.returns
returns c = sessions_runnable

use Rattle.pybuf_sessions.proofs.Runnable.{some_read, few_read, fit_read}
use Rattle.pybuf_sessions.proofs.reading.read_sessions.Goals as goal

pub returns-clause-some : goal.returns-clause-some
returns-clause-some c = some_read c.read_all.result c.args.input.now c.sessions_are_runnable.ensures c.read_all.ensures

pub returns-clause-few : goal.returns-clause-few
returns-clause-few c = few_read c.read_all.result c.args.input.now c.sessions_are_runnable.ensures c.read_all.ensures

pub returns-clause-fit : goal.returns-clause-fit
returns-clause-fit c = fit_read c.read_all.result c.args.input.now c.sessions_are_runnable.ensures c.read_all.ensures

use Rattle.pybuf_exporter.proofs.Refusing.{itself_refused, others_have_none}
use Rattle.pybuf_exporter.proofs.laws.adding_itself_is_refused.Goals as goal

pub returns-clause-itself : goal.returns-clause-itself
returns-clause-itself c = itself_refused

pub returns-clause-others : goal.returns-clause-others
returns-clause-others c = others_have_none

use Rattle.pybuf_exporter.proofs.Every.{alike_steps}
use Rattle.pybuf_exporter.proofs.laws.names_alike_do_the_same.Goals as goal

pub returns : goal.returns
returns c = alike_steps

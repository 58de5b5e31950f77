use Rattle.pybuf_exporter.proofs.Iterating.{gives_the_bytes}
use Rattle.pybuf_exporter.proofs.laws.iterators_give_the_bytes.Goals as goal

pub returns : goal.returns
returns c = gives_the_bytes

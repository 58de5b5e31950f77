use Rattle.pybuf_exporter.proofs.Owning.{taken_all}
use Rattle.pybuf_exporter.proofs.laws.taken_bytes_are_all.Goals as goal

pub returns : goal.returns
returns c = taken_all

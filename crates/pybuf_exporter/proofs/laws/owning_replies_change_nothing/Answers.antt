use Rattle.pybuf_exporter.proofs.Owning.{owning_same}
use Rattle.pybuf_exporter.proofs.laws.owning_replies_change_nothing.Goals as goal

pub returns : goal.returns
returns c = owning_same

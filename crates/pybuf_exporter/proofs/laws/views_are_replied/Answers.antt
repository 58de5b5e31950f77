use Rattle.pybuf_exporter.proofs.Releasing.{are_replied}
use Rattle.pybuf_exporter.proofs.laws.views_are_replied.Goals as goal

pub returns : goal.returns
returns c = are_replied

use Rattle.pybuf_exporter.proofs.Releasing.{dont_count}
use Rattle.pybuf_exporter.proofs.laws.released_views_dont_count.Goals as goal

pub returns : goal.returns
returns c = dont_count

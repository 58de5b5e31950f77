use Rattle.pybuf_exporter.proofs.Unchanged.{reading_same}
use Rattle.pybuf_exporter.proofs.laws.reading_in_place_changes_nothing.Goals as goal

pub returns : goal.returns
returns c = reading_same

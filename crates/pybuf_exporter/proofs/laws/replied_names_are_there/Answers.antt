use Rattle.pybuf_exporter.proofs.Every.{names_are_there}
use Rattle.pybuf_exporter.proofs.laws.replied_names_are_there.Goals as goal

pub returns : goal.returns
returns c = names_are_there c.effects_are_safe.ensures c.reading_keeps.ensures

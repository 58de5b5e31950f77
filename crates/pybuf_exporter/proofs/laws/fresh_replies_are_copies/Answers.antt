use Rattle.pybuf_exporter.proofs.Every.{fresh_are_copies}
use Rattle.pybuf_exporter.proofs.laws.fresh_replies_are_copies.Goals as goal

pub returns : goal.returns
returns c = fresh_are_copies c.effects_are_safe.ensures c.reading_keeps.ensures

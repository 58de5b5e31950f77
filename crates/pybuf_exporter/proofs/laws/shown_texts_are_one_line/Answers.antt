use Rattle.pybuf_exporter.proofs.Every.{shown_are_one_line}
use Rattle.pybuf_exporter.proofs.laws.shown_texts_are_one_line.Goals as goal

pub returns : goal.returns
returns c = shown_are_one_line c.effects_are_safe.ensures c.reading_keeps.ensures

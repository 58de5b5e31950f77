use Rattle.pybuf_exporter.proofs.Every.{bytes_stay_so}
use Rattle.pybuf_exporter.proofs.laws.readonly_bytes_stay.Goals as goal

pub returns : goal.returns
returns c = bytes_stay_so c.effects_are_safe.ensures c.reading_keeps.ensures

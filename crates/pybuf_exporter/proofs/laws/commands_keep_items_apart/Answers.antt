use Rattle.pybuf_exporter.proofs.Every.{items_stay_apart}
use Rattle.pybuf_exporter.proofs.laws.commands_keep_items_apart.Goals as goal

pub returns : goal.returns
returns c = items_stay_apart c.effects_are_safe.ensures c.reading_keeps.ensures

use Rattle.pybuf_exporter.proofs.Every.{refusals_stay_so}
use Rattle.pybuf_exporter.proofs.laws.refused_commands_change_nothing.Goals as goal

pub returns : goal.returns
returns c = refusals_stay_so c.effects_are_safe.ensures c.reading_keeps.ensures

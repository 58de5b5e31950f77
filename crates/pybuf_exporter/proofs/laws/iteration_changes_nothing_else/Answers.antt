use Rattle.pybuf_exporter.proofs.Every.{nothing_else_so}
use Rattle.pybuf_exporter.proofs.laws.iteration_changes_nothing_else.Goals as goal

pub returns : goal.returns
returns c = nothing_else_so c.effects_are_safe.ensures c.reading_keeps.ensures

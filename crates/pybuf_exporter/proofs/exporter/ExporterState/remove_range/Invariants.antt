use Rattle.pybuf_exporter.proofs.exporter.ExporterState.remove_range.Given as goal

abbrev pub ghosts-remove_by : goal.ghosts-remove_by
ghosts-remove_by a = record { name = a.blank.name; parts = a.blank.parts }

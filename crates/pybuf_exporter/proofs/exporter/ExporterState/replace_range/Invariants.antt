use Rattle.pybuf_exporter.proofs.exporter.ExporterState.replace_range.Given as goal

abbrev pub ghosts-replace_by : goal.ghosts-replace_by
ghosts-replace_by a = record { name = a.blank.name; parts = a.blank.parts }

use Rattle.pybuf_exporter.proofs.exporter.ExporterState.shrink_to_fit.Given as goal

abbrev pub ghosts-shrink_by : goal.ghosts-shrink_by
ghosts-shrink_by a = record { name = a.blank.name; parts = a.blank.parts }

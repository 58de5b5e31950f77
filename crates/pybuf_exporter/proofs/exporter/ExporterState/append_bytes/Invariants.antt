use Rattle.pybuf_exporter.proofs.exporter.ExporterState.append_bytes.Given as goal

abbrev pub ghosts-append_by : goal.ghosts-append_by
ghosts-append_by a = record { name = a.blank.name; parts = a.blank.parts }

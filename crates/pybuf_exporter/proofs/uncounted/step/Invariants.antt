use Rattle.pybuf_exporter.proofs.uncounted.step.Given as goal

abbrev pub ghosts-step_by : goal.ghosts-step_by
ghosts-step_by a = record { name = a.blank.name; parts = a.blank.parts }

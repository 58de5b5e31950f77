use Rattle.pybuf_exporter.proofs.uncounted.pop.Given as goal

abbrev pub ghosts-pop_by : goal.ghosts-pop_by
ghosts-pop_by a = record { name = a.blank.name; parts = a.blank.parts }

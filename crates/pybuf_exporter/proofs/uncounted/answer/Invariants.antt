use Rattle.pybuf_exporter.proofs.uncounted.answer.Given as goal

abbrev pub ghosts-answer_by : goal.ghosts-answer_by
ghosts-answer_by g a = record { name = a.blank.name; parts = a.blank.parts }

use Rattle.test_values.proofs.queues.work_by_brand.Given as goal

abbrev pub ghosts-work : goal.ghosts-work
ghosts-work a = record { name = a.blank.name; parts = a.blank.parts }

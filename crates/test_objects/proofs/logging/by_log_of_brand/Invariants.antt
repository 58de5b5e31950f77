use Rattle.test_objects.proofs.logging.by_log_of_brand.Given as goal

abbrev pub ghosts-by_log : goal.ghosts-by_log
ghosts-by_log a = record { name = a.blank.name; parts = a.blank.parts }

use Rattle.test_objects.proofs.appending.by_calls_by_brand.Given as goal

abbrev pub ghosts-by_calls : goal.ghosts-by_calls
ghosts-by_calls g a = record { name = a.blank.name; parts = a.blank.parts }

use Rattle.test_objects.proofs.buffers.read.Given as goal

abbrev pub ghosts-append : goal.ghosts-append
ghosts-append a = record { name = a.blank.name; parts = a.blank.parts }

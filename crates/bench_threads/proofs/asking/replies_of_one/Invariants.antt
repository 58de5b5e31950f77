use Rattle.bench_threads.proofs.asking.replies_of_one.Given as goal

abbrev pub ghosts-ask_of_one : goal.ghosts-ask_of_one
ghosts-ask_of_one g a = record { name = a.blank.name; parts = a.blank.parts }

use Rattle.bench_threads.proofs.asking.replies_alone.Given as goal

abbrev pub ghosts-ask_alone : goal.ghosts-ask_alone
ghosts-ask_alone g a = record { name = a.blank.name; parts = a.blank.parts }

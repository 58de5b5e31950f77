use Rattle.pybuf_locked.proofs.unchanged.there_and_back.Given as goal

abbrev pub ghosts-back : goal.ghosts-back
ghosts-back a = record { opening = a.state.exporter }

use Rattle.example_users.proofs.handover.Handover.between.Given as goal

abbrev pub ghosts-hand_over-A-Ledger : goal.ghosts-hand_over-A-Ledger
ghosts-hand_over-A-Ledger g a = record { name = a.first.name; parts = a.first.parts }

abbrev pub ghosts-hand_over-B-Ledger : goal.ghosts-hand_over-B-Ledger
ghosts-hand_over-B-Ledger g a = record { name = a.second.name; parts = a.second.parts }

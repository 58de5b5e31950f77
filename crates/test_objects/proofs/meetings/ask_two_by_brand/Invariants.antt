use Rattle.test_objects.proofs.meetings.ask_two_by_brand.Given as goal

abbrev pub ghosts-ask_two-A-Ledger : goal.ghosts-ask_two-A-Ledger
ghosts-ask_two-A-Ledger g a = record { name = a.left.name; parts = a.left.parts }

abbrev pub ghosts-ask_two-B-Ledger : goal.ghosts-ask_two-B-Ledger
ghosts-ask_two-B-Ledger g a = record { name = a.right.name; parts = a.right.parts }

use Rattle.test_objects.proofs.handing.part_by_brand.Given as goal

abbrev pub ghosts-part_of-L-Ledger : goal.ghosts-part_of-L-Ledger
ghosts-part_of-L-Ledger g a = record { name = a.blank.name; parts = a.blank.parts }

abbrev pub ghosts-part_of-L-Begun : goal.ghosts-part_of-L-Begun
ghosts-part_of-L-Begun g a = record { opening = a.state.exporter }

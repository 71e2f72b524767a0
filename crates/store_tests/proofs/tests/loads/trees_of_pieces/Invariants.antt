use Rattle.store_tests.proofs.tests.loads.trees_of_pieces.Given as goal

abbrev pub ghosts-loads : goal.ghosts-loads
ghosts-loads g a = record { name = a.blank.name; parts = a.blank.parts }

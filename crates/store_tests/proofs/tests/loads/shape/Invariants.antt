use Rattle.store_tests.proofs.tests.loads.shape.Given as goal

abbrev pub ghosts-loaded : goal.ghosts-loaded
ghosts-loaded a = record { name = a.blank.name; parts = a.blank.parts }

use Rattle.store_tests.proofs.tests.images.saved_copies.Given as goal

abbrev pub ghosts-saved : goal.ghosts-saved
ghosts-saved a = record { name = a.blank.name; parts = a.blank.parts }

use Rattle.store_tests.proofs.tests.shares.texts_in_pieces.Given as goal

abbrev pub ghosts-is_same : goal.ghosts-is_same
ghosts-is_same g a = record { name = a.blank.name; parts = a.blank.parts }

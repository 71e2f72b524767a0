use Rattle.store_tests.proofs.tests.edits.is_value.Given as goal

abbrev pub ghosts-edited : goal.ghosts-edited
ghosts-edited a = record { name = a.blank.name; parts = a.blank.parts }

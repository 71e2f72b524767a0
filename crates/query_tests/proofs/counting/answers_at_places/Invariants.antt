use Rattle.query_tests.proofs.counting.answers_at_places.Given as goal

abbrev pub ghosts-agreement : goal.ghosts-agreement
ghosts-agreement g a = record { name = a.blank.name; parts = a.blank.parts }

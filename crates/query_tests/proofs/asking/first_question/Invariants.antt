use Rattle.query_tests.proofs.asking.first_question.Given as goal

abbrev pub ghosts-asked : goal.ghosts-asked
ghosts-asked g a = record { name = a.blank.name; parts = a.blank.parts }

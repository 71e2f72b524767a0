use Rattle.query_tests.proofs.answers.a_letter_with_or_without_x.Given as goal

abbrev pub ghosts-asked : goal.ghosts-asked
ghosts-asked g a = record { name = a.blank.name; parts = a.blank.parts }

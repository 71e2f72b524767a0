use Rattle.query_tests.proofs.numbers.numbers_ranks_and_positions.Given as goal

abbrev pub ghosts-numbers : goal.ghosts-numbers
ghosts-numbers g a = record { name = a.blank.name; parts = a.blank.parts }

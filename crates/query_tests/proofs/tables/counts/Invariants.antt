use Rattle.query_tests.proofs.tables.counts.Given as goal

abbrev pub ghosts-of_text : goal.ghosts-of_text
ghosts-of_text g a = record { name = a.blank.name; parts = a.blank.parts }

use Rattle.query_tests.proofs.listings.seen.Given as goal

abbrev pub ghosts-listed : goal.ghosts-listed
ghosts-listed g a = record { name = a.blank.name; parts = a.blank.parts }

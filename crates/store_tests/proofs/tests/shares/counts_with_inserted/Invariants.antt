use Rattle.store_tests.proofs.tests.shares.counts_with_inserted.Given as goal

abbrev pub ghosts-counts : goal.ghosts-counts
ghosts-counts a = record { name = a.blank.name; parts = a.blank.parts }

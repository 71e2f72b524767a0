use Rattle.store_tests.proofs.tests.roots.a_byte_three_times.Given as goal

abbrev pub ghosts-two_bytes : goal.ghosts-two_bytes
ghosts-two_bytes g a = record { name = a.blank.name; parts = a.blank.parts }

use Rattle.query_tests.proofs.tables.two_nodes_meet_in_a_second_growth.Given as goal

abbrev pub ghosts-two_growths : goal.ghosts-two_growths
ghosts-two_growths g a = record { name = a.blank.name; parts = a.blank.parts }

use Rattle.query_tests.proofs.tables.any_order_gives_the_same.Given as goal

abbrev pub ghosts-agree : goal.ghosts-agree
ghosts-agree g a = record { name = a.blank.name; parts = a.blank.parts }

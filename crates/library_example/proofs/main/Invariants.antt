use Rattle.library_example.proofs.main.Given as goal

abbrev pub ghosts-first_answers : goal.ghosts-first_answers
ghosts-first_answers g a = record { name = a.blank.name; parts = a.blank.parts }

abbrev pub ghosts-answered-P-Ledger : goal.ghosts-answered-P-Ledger
ghosts-answered-P-Ledger g a = record { name = a.pairs.name; parts = a.pairs.parts }

abbrev pub ghosts-answered-T-Ledger : goal.ghosts-answered-T-Ledger
ghosts-answered-T-Ledger g a = record { name = a.places.name; parts = a.places.parts }

abbrev pub ghosts-answered-L-Ledger : goal.ghosts-answered-L-Ledger
ghosts-answered-L-Ledger g a = record { name = a.looks.name; parts = a.looks.parts }

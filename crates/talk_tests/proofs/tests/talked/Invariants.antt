use Rattle.talk_tests.proofs.tests.talked.Given as goal

abbrev pub ghosts-counted-P-Ledger : goal.ghosts-counted-P-Ledger
ghosts-counted-P-Ledger g a = record { name = a.blanks.0.name; parts = a.blanks.0.parts }

abbrev pub ghosts-counted-T-Ledger : goal.ghosts-counted-T-Ledger
ghosts-counted-T-Ledger g a = record { name = a.blanks.1.name; parts = a.blanks.1.parts }

abbrev pub ghosts-counted-L-Ledger : goal.ghosts-counted-L-Ledger
ghosts-counted-L-Ledger g a = record { name = a.blanks.2.name; parts = a.blanks.2.parts }

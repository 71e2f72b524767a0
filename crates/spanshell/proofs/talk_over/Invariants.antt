use Rattle.spanshell.proofs.talk_over.Given as goal

abbrev pub ghosts-talk_with-P-Ledger : goal.ghosts-talk_with-P-Ledger
ghosts-talk_with-P-Ledger g a = record { name = a.blanks.pairs.name; parts = a.blanks.pairs.parts }

abbrev pub ghosts-talk_with-T-Ledger : goal.ghosts-talk_with-T-Ledger
ghosts-talk_with-T-Ledger g a = record { name = a.blanks.places.name; parts = a.blanks.places.parts }

abbrev pub ghosts-talk_with-L-Ledger : goal.ghosts-talk_with-L-Ledger
ghosts-talk_with-L-Ledger g a = record { name = a.blanks.looks.name; parts = a.blanks.looks.parts }

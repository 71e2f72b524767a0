use Rattle.spanbase.proofs.run_over.Given as goal

abbrev pub ghosts-run_script-P-Ledger : goal.ghosts-run_script-P-Ledger
ghosts-run_script-P-Ledger g a = record { name = a.blanks.pairs.name; parts = a.blanks.pairs.parts }

abbrev pub ghosts-run_script-T-Ledger : goal.ghosts-run_script-T-Ledger
ghosts-run_script-T-Ledger g a = record { name = a.blanks.places.name; parts = a.blanks.places.parts }

abbrev pub ghosts-run_script-L-Ledger : goal.ghosts-run_script-L-Ledger
ghosts-run_script-L-Ledger g a = record { name = a.blanks.looks.name; parts = a.blanks.looks.parts }

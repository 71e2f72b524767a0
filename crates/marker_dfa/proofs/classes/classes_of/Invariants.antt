use Rattle.marker_dfa.proofs.Splitting.{FitsLetters}
use Rattle.marker_dfa.proofs.classes.classes_of.Given as goal

abbrev pub invariant-loop-letters : goal.invariant-loop-letters
invariant-loop-letters l = FitsLetters l.sets l.letters-index l.classes

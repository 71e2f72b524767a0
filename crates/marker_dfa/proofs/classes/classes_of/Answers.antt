use Rattle.marker_dfa.proofs.Splitting.{sets_fit}
use Rattle.marker_dfa.proofs.classes.classes_of.Goals as goal

pub returns-clause-fit : goal.returns-clause-fit
returns-clause-fit c = sets_fit c.args.sets.now c.loop-letters.letters-index c.loop-letters.classes c.loop-letters.invariant c.loop-letters-test.false

use Rattle.std.proofs.Common.{◌≡◌}
use Rattle.marker_dfa.proofs.Leaving.{StepsUpTo}
use Rattle.marker_dfa.proofs.exits.steps_of.Given as goal

abbrev pub invariant-loop-index : goal.invariant-loop-index
invariant-loop-index l = record {
  items : l.index-items ≡ l.readers.places.items;
  steps : StepsUpTo l.nfa.states l.bundles l.exits.from l.readers.places.items l.index-index l.steps.items;
}

use Rattle.std.proofs.Common.{◌≡◌}
use Rattle.marker_dfa.proofs.Leaving.{HasEndsUpTo}
use Rattle.marker_dfa.proofs.exits.ends_of_set.Given as goal

abbrev pub invariant-loop-end : goal.invariant-loop-end
invariant-loop-end l = record {
  items : l.end-items ≡ l.nfa.ends.items;
  ends : HasEndsUpTo l.from l.nfa.ends.items l.end-index l.marks.items;
}

use Rattle.marker_dfa.proofs.Renumbering.{AreMade, IsNumberOf}
use Rattle.marker_dfa.proofs.merging.numbering_of.Given as goal

abbrev pub invariant-loop-representative : goal.invariant-loop-representative
invariant-loop-representative l = AreMade (IsNumberOf l.firsts.numbers.items) l.into l.representative-index l.numbers.items

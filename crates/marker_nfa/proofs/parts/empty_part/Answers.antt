use Rattle.marker_nfa.proofs.Adding.{from_none}
use Rattle.marker_nfa.proofs.Making.{part_of_empty}
use Rattle.marker_nfa.proofs.parts.empty_part.Goals as goal

pub returns : goal.returns
returns c n = part_of_empty n _ (from_none _ _ _ c.new-nulls.ensures.items c.in_ok-put.ensures) c.new.ensures.items c.new-2.ensures.items

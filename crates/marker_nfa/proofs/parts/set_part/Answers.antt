use Rattle.marker_nfa.proofs.Adding.{from_none}
use Rattle.marker_nfa.proofs.Making.{part_of_set}
use Rattle.marker_nfa.proofs.parts.set_part.Goals as goal

pub returns : goal.returns
returns c b = part_of_set b c.args.number _ c.new-nulls.ensures.items (from_none _ _ _ c.new-firsts.ensures.items c.in_ok-put.ensures) (from_none _ _ _ c.new-lasts.ensures.items c.in_ok-put-2.ensures)

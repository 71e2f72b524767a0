use Rattle.std.proofs.Common.{refl}
use Rattle.marker_nfa.proofs.Making.{part_of_star}
use Rattle.marker_nfa.proofs.parts.star_part.Goals as goal

pub push_joins-requires : goal.push_joins-requires
push_joins-requires c = rw (c.deref.ensures.value, c.deref-2.ensures.value) c.requires

pub returns-clause-part : goal.returns-clause-part
returns-clause-part c a n ip = part_of_star a n c.args.part.now _ c.in_ok-push_new.ensures refl refl ip

pub returns-clause-hops : goal.returns-clause-hops
returns-clause-hops c = rw (c.deref.ensures.value, c.deref-2.ensures.value) at c.in_ok-push_joins.ensures

use Rattle.marker_nfa.proofs.Adding.{from_none}
use Rattle.marker_nfa.proofs.Making.{part_of_cat}
use Rattle.marker_nfa.proofs.parts.cat_part.Goals as goal

pub push_joins-requires : goal.push_joins-requires
push_joins-requires c = rw (c.deref.ensures.value, c.deref-2.ensures.value) c.requires.hops

pub push_all_sums-requires : goal.push_all_sums-requires
push_all_sums-requires c = rw (c.deref-3.ensures.value, c.deref-4.ensures.value) c.requires.nulls

pub push_all_raised-requires : goal.push_all_raised-requires
push_all_raised-requires c = rw (c.deref-5.ensures.value, c.deref-6.ensures.value) c.requires.firsts

pub push_all_raised-requires-2 : goal.push_all_raised-requires-2
push_all_raised-requires-2 c = rw (c.deref-7.ensures.value, c.deref-8.ensures.value) c.requires.lasts

pub returns-clause-part : goal.returns-clause-part
returns-clause-part c a b n ip iq =
    let s = rw (c.deref-3.ensures.value, c.deref-4.ensures.value) at c.in_ok-push_all_sums.ensures in
    let f = rw (c.deref-5.ensures.value, c.deref-6.ensures.value) at c.in_ok-push_all_raised.ensures in
    let l = rw (c.deref-7.ensures.value, c.deref-8.ensures.value) at c.in_ok-push_all_raised-2.ensures in
    rw (c.swap.ensures.x_after) (part_of_cat a b n c.args.left.now c.args.right.now _ (from_none _ _ _ c.new-nulls.ensures.items s) f l ip iq)

pub returns-clause-hops : goal.returns-clause-hops
returns-clause-hops c = rw (c.deref.ensures.value, c.deref-2.ensures.value) at c.in_ok-push_joins.ensures

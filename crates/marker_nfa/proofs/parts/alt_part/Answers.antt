use Rattle.marker_nfa.proofs.Making.{part_of_alt}
use Rattle.marker_nfa.proofs.parts.alt_part.Goals as goal

pub returns : goal.returns
returns c a b n ip iq =
    let s = rw (c.deref.ensures.value) at c.in_ok-push_marks.ensures in
    let f = rw (c.deref-2.ensures.value) at c.in_ok-push_ends.ensures in
    let l = rw (c.deref-3.ensures.value) at c.in_ok-push_ends-2.ensures in
    part_of_alt a b n c.args.left.now c.args.right.now _ s f l ip iq

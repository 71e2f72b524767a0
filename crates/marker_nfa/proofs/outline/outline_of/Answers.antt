use Rattle.std.proofs.Common.{arith}
use Rattle.span_types.specs.FormulaTree.{tree_of}
use Rattle.marker_nfa.proofs.Outlines.{first_short, edges_are, ends_are}
use Rattle.marker_nfa.proofs.Following.{follow_added}
use Rattle.marker_nfa.proofs.outline.outline_of.Goals as goal

pub part_of-requires : goal.part_of-requires
part_of-requires c = record { small = c.requires.small; room = rw (c.new-letters.ensures.items) (omega (arith, c.requires.few)) }

pub push_hops-requires : goal.push_hops-requires
push_hops-requires c = rw (c.deref.ensures.value) (first_short (tree_of c.args.formula.now) _ _ c.requires.small c.in_ok-part.ensures.part)

pub returns : goal.returns
returns c =
    let ip = rw (c.new-letters.ensures.items) at c.in_ok-part.ensures.part in
    let h1 = follow_added _ _ _ _ (rw (c.new-letters.ensures.items) at c.in_ok-part.ensures.hops) in
    let h2 = rw (c.deref.ensures.value) at c.in_ok-push_hops.ensures in
    let e1 = rw (c.deref-2.ensures.value) at c.in_ok-push_at_start.ensures in
    let l = rw (c.new-letters.ensures.items) at c.in_ok-part.ensures.letters in
    record {
      letters = l;
      hops = edges_are (tree_of c.args.formula.now) c.in_ok-part.part _ _ _ _ c.new-hops.ensures.items h1 h2 c.put_in_order.ensures.same ip;
      hops_once = c.put_in_order.ensures.once;
      ends = ends_are (tree_of c.args.formula.now) c.in_ok-part.part _ _ e1 c.put_ends_in_order.ensures.same ip;
      ends_once = c.put_ends_in_order.ensures.once;
    }

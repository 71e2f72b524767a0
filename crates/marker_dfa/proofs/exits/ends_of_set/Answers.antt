use Rattle.std.proofs.Common.{◌≡◌, ◌<◌, ◌≤◌, List, Some, ap, sym, ◌∙◌, arith, length, slice_get, get_or}
use Rattle.std.proofs.lemmas.Option.{slice_get-get_or}
use Rattle.marker_nfa.specs.declared.nfa.End.{End}
use Rattle.marker_dfa.specs.Bundled.{automaton_in}
use Rattle.marker_dfa.proofs.Lists.{contains_at}
use Rattle.marker_dfa.proofs.Leaving.{ends_more, ends_end}
use Rattle.marker_dfa.proofs.exits.ends_of_set.Goals as goal

pub push_end-requires : goal.push_end-requires
push_end-requires c =
    let items = c.loop-end.invariant.items in
    let lt : c.loop-end.end-index < length c.args.nfa.now.ends.items = omega (arith, c.loop-end-test.true, ap length items) in
    let blank : End = record { state = 0; mark = 0 } in
    let at : slice_get c.args.nfa.now.ends.items c.loop-end.end-index ≡ Some (get_or c.deref-end-items.result.now c.loop-end.end-index blank) = slice_get-get_or c.args.nfa.now.ends.items c.loop-end.end-index blank lt ∙ ap (λ (l : List End). Some (get_or l c.loop-end.end-index blank)) (sym items) in
    let w = c.requires.automaton.ends_within _ (contains_at _ _ _ at) in
    omega (arith, w, c.requires.size)

pub loop-end-preserved : goal.loop-end-preserved
loop-end-preserved c =
    let items = c.loop-end.invariant.items in
    let lt : c.loop-end.end-index < length c.args.nfa.now.ends.items = omega (arith, c.loop-end-test.true, ap length items) in
    let blank : End = record { state = 0; mark = 0 } in
    let at : slice_get c.args.nfa.now.ends.items c.loop-end.end-index ≡ Some (get_or c.deref-end-items.result.now c.loop-end.end-index blank) = slice_get-get_or c.args.nfa.now.ends.items c.loop-end.end-index blank lt ∙ ap (λ (l : List End). Some (get_or l c.loop-end.end-index blank)) (sym items) in
    record { items = items; ends = ends_more _ _ _ _ _ _ at c.loop-end.invariant.ends c.in_ok-push_end.ensures }

pub returns : goal.returns
returns c =
    let items = c.loop-end.invariant.items in
    let le : length c.args.nfa.now.ends.items ≤ c.loop-end.end-index = omega (arith, c.loop-end-test.false, ap length items) in
    ends_end (automaton_in c.args.nfa.now) c.args.from.now _ _ c.loop-end.end-index le c.loop-end.invariant.ends c.put_in_order.ensures.same c.put_in_order.ensures.falling

use Rattle.std.proofs.Common.{◌≡◌, ◌<◌, ℕ, List, Some, ap, sym, subst, ◌∙◌, arith, length, slice_get, Contains, drop, false, replicate}
use Rattle.std.proofs.lemmas.List.{take_at}
use Rattle.std.proofs.lemmas.Option.{slice_get-get_or}
use Rattle.marker_dfa.specs.Bundled.{automaton_in}
use Rattle.marker_dfa.proofs.BySource.{leaving_start, leaving_more, leaving_end, listed_within}
use Rattle.marker_dfa.proofs.exits.exits_of.Goals as goal
use Rattle.marker_dfa.proofs.exits.exits_of.Goals.{After-deref}

-- the list of this turn's member
there : (c : After-deref) → slice_get c.args.by_source.now c.in-Some.state ≡ Some c.index-by_source-state.result
there c =
    let lt : c.in-Some.state < length c.args.by_source.now = omega (arith, c.in-Some.ensures.within, c.requires.size, c.requires.sources.size) in
    slice_get-get_or c.args.by_source.now c.in-Some.state c.index-by_source-state.result lt ∙ ap Some (sym c.index-by_source-state.is)

pub loop-state-init : goal.loop-state-init
loop-state-init c =
    let blank : c.in_ok-leaving.leaving.items ≡ replicate (length c.args.bundles.now) false = c.in_ok-leaving.ensures.items_if_clones_equal (λ y e. e) in
    rw blank (leaving_start c.args.bundles.now c.args.by_source.now c.args.from)

pub mark_all-requires : goal.mark_all-requires
mark_all-requires c i s =
    let listed : Contains c.index-by_source-state.result.items i = subst (λ (l : List ℕ). Contains l i) c.deref.ensures.value s in
    let lt = listed_within (automaton_in c.args.nfa.now) c.args.bundles.now c.args.by_source.now c.in-Some.state i c.requires.sources (c.index-by_source-state.result, there (goal.at.mark_all-requires c).After-deref, listed) in
    omega (arith, lt, c.loop-state.invariant.size)

pub loop-state-preserved : goal.loop-state-preserved
loop-state-preserved c =
    let new = c.mark_all.new.leaving in
    let old = c.loop-state.leaving.items in
    let lent = c.deref_mut.ensures.value in
    let size : length new ≡ length old = c.mark_all.ensures.size ∙ ap length lent in
    let back = take_at new (drop (length new) old) c.loop-state.leaving.len (size ∙ sym c.loop-state.leaving.ok.0) in
    rw back (leaving_more c.args.bundles.now c.args.by_source.now c.args.from c.loop-state.next c.in-Some.state c.index-by_source-state.result old new (there (goal.at.loop-state-preserved c).After-deref) c.in-Some.ensures size
    (rw (← lent, ← c.deref.ensures.value) c.mark_all.ensures.marked) c.loop-state.invariant)

pub returns-clause-exits : goal.returns-clause-exits
returns-clause-exits c = leaving_end (automaton_in c.args.nfa.now) c.args.bundles.now c.args.by_source.now (record { from = c.args.from; leaving = c.loop-state.leaving }) c.loop-state.next c.requires.sources c.requires.size c.in_default.ensures c.loop-state.invariant

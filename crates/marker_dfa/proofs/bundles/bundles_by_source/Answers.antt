use Rattle.std.proofs.Common.{◌≡◌, Some, ap, sym, ◌∙◌, arith, drop, length, slice_get}
use Rattle.std.proofs.lemmas.List.{take_at}
use Rattle.std.proofs.lemmas.Option.{slice_get-get_or}
use Rattle.marker_dfa.specs.Bundled.{automaton_in}
use Rattle.marker_dfa.specs.Bundles.{sources_of}
use Rattle.marker_dfa.specs.Making.{GainsIndex}
use Rattle.marker_dfa.proofs.BySource.{by_source_start, by_source_more, by_source_end}
use Rattle.marker_dfa.proofs.bundles.bundles_by_source.Goals as goal

pub loop-index-init : goal.loop-index-init
loop-index-init c = by_source_start (automaton_in c.args.nfa.now) c.args.bundles.now c.in_ok-by_source.by_source.items c.in_ok-by_source.ensures

pub put_bundle-requires : goal.put_bundle-requires
put_bundle-requires c o k =
    let n = c.loop-index.index in
    let w = c.index-bundles-index.result in
    let at : slice_get c.args.bundles.now n ≡ Some w = slice_get-get_or c.args.bundles.now n w c.loop-index-test.true ∙ ap Some (sym c.index-bundles-index.is) in
    omega (arith, c.requires.within n o w at k, c.loop-index.invariant.size, ap length c.deref_mut.ensures.value)

pub loop-index-preserved : goal.loop-index-preserved
loop-index-preserved c =
    let n = c.loop-index.index in
    let w = c.index-bundles-index.result in
    let at : slice_get c.args.bundles.now n ≡ Some w = slice_get-get_or c.args.bundles.now n w c.loop-index-test.true ∙ ap Some (sym c.index-bundles-index.is) in
    let new = c.put_bundle.new.by_source in
    let old = c.loop-index.by_source.items in
    let gains : GainsIndex old new (sources_of w) n = rw (← c.deref_mut.ensures.value) c.in_ok-put_bundle.ensures in
    let back = take_at new (drop (length new) old) c.loop-index.by_source.len (gains.size ∙ sym c.loop-index.by_source.ok.0) in
    rw back (by_source_more (automaton_in c.args.nfa.now) c.args.bundles.now n w old new at c.loop-index.invariant gains)

pub returns : goal.returns
returns c = by_source_end (automaton_in c.args.nfa.now) c.args.bundles.now c.loop-index.index c.loop-index.by_source.items (omega (arith, c.loop-index-test.false)) c.loop-index.invariant

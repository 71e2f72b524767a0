use Rattle.std.proofs.Common.{◌≡◌, ◌<◌, ◌≤◌, ℕ, List, Some, ap, false, sym, ◌∙◌, arith, length, slice_get, get_or}
use Rattle.std.proofs.lemmas.Option.{slice_get-get_or, get_or_from_slice_get}
use Rattle.marker_dfa.specs.Bundled.{automaton_in}
use Rattle.marker_dfa.proofs.Lists.{get_within}
use Rattle.marker_dfa.proofs.Leaving.{reader_within, steps_more, steps_pass, steps_end}
use Rattle.marker_dfa.proofs.exits.steps_of.Goals as goal
use Rattle.marker_dfa.proofs.exits.steps_of.Goals.{then-index+in_ok-put_target, else-index}

pub index-requires : goal.index-requires
index-requires c =
    let items = c.loop-index.invariant.items in
    let places = c.args.readers.now.places.items in
    let k = c.loop-index.index-index in
    let index = get_or c.deref-index-items.result.now k 0 in
    let lt : k < length places = omega (arith, c.loop-index-test.true, ap length items) in
    let there : slice_get places k ≡ Some index = slice_get-get_or places k 0 lt ∙ ap (λ (l : List ℕ). Some (get_or l k 0)) (sym items) in
    let reads = reader_within c.args.bundles.now c.args.readers.now k index c.requires.readers there in
    let within = get_within c.args.bundles.now index reads.0 reads.1 in
    omega (arith, within, c.requires.exits.even, c.args.exits.now.leaving.ok.0)

pub bundle_at-requires : goal.bundle_at-requires
bundle_at-requires c =
    let items = c.loop-index.invariant.items in
    let places = c.args.readers.now.places.items in
    let k = c.loop-index.index-index in
    let index = get_or c.deref-index-items.result.now k 0 in
    let lt : k < length places = omega (arith, c.loop-index-test.true, ap length items) in
    let there : slice_get places k ≡ Some index = slice_get-get_or places k 0 lt ∙ ap (λ (l : List ℕ). Some (get_or l k 0)) (sym items) in
    let reads = reader_within c.args.bundles.now c.args.readers.now k index c.requires.readers there in
    get_within c.args.bundles.now index reads.0 reads.1

pub put_target-requires-clause-target : goal.put_target-requires-clause-target
put_target-requires-clause-target c = c.requires.bundles.are.wellmade.targets _ _ c.bundle_at.ensures

pub put_target-requires-clause-sizes : goal.put_target-requires-clause-sizes
put_target-requires-clause-sizes c = c.loop-index.invariant.steps.sizes

pub loop-index-preserved : goal.loop-index-preserved
loop-index-preserved c =
    let items = c.loop-index.invariant.items in
    let places = c.args.readers.now.places.items in
    let k = c.loop-index.index-index in
    let index = get_or c.deref-index-items.result.now k 0 in
    let lt : k < length places = omega (arith, c.loop-index-test.true, ap length items) in
    let there : slice_get places k ≡ Some index = slice_get-get_or places k 0 lt ∙ ap (λ (l : List ℕ). Some (get_or l k 0)) (sym items) in
    let reads = reader_within c.args.bundles.now c.args.readers.now k index c.requires.readers there in
    let within = get_within c.args.bundles.now index reads.0 reads.1 in
    let exit = c.index.result.now in
    let leaving = c.args.exits.now.leaving.items in
    let kept : slice_get leaving index ≡ Some exit = slice_get-get_or leaving index exit (omega (arith, within, c.requires.exits.even)) ∙ ap Some (sym c.index.ensures) in
    let is : get_or leaving index false ≡ exit = get_or_from_slice_get leaving index exit false kept in
    elim c.if-index.branch [
      | then-index+in_ok-put_target w ↦
          let at = w.bundle_at.ensures in
          let leaves = c.requires.exits.leaves index _ at (is ∙ w.if-index.true) in
          record {
            items = items;
            steps = rw w.steps-is (steps_more c.args.nfa.now.states c.args.bundles.now c.args.exits.now.from places k index _ _ there at c.loop-index.invariant.steps c.requires.bundles.fall c.requires.readers.rising (c.requires.bundles.are.wellmade.targets _ _ at) leaves _ w.in_ok-put_target.ensures);
          }
      | else-index w ↦
          let none = c.requires.exits.stays index reads.0 reads.1 (is ∙ w.if-index.false) in
          record {
            items = items;
            steps = rw w.steps-is (steps_pass c.args.nfa.now.states c.args.bundles.now c.args.exits.now.from places k index _ _ there reads.1 c.loop-index.invariant.steps none);
          }
    ]

pub returns : goal.returns
returns c =
    let le : length c.args.readers.now.places.items ≤ c.loop-index.index-index = omega (arith, c.loop-index-test.false, ap length c.loop-index.invariant.items) in
    steps_end (automaton_in c.args.nfa.now) c.args.bundles.now c.args.exits.now.from c.args.readers.now c.loop-index.index-index _ le c.requires.bundles.are c.requires.readers c.loop-index.invariant.steps

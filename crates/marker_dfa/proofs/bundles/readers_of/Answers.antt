use Rattle.std.proofs.Common.{◌≡◌, Some, ap, sym, ◌∙◌, arith, slice_get}
use Rattle.std.proofs.lemmas.Option.{slice_get-get_or}
use Rattle.marker_dfa.proofs.Bundling.{readers_more, readers_pass, readers_end}
use Rattle.marker_dfa.proofs.bundles.readers_of.Goals as goal
use Rattle.marker_dfa.proofs.bundles.readers_of.Goals.{then-contains+in_ok-push, else-contains}

pub loop-index-preserved : goal.loop-index-preserved
loop-index-preserved c =
    let at : slice_get c.args.bundles.now c.loop-index.index ≡ Some c.index-bundles-index.result = slice_get-get_or c.args.bundles.now c.loop-index.index c.index-bundles-index.result c.loop-index-test.true ∙ ap Some (sym c.index-bundles-index.is) in
    elim c.if-contains.branch [
      | then-contains+in_ok-push w ↦ rw (w.places-is, w.in_ok-push.ensures.items) (readers_more c.args.bundles.now c.args.byte c.loop-index.index _ _ at c.loop-index.invariant (sym c.contains.ensures.value ∙ w.if-contains.true))
      | else-contains w ↦ rw w.places-is (readers_pass c.args.bundles.now c.args.byte c.loop-index.index _ _ at c.loop-index.invariant (sym c.contains.ensures.value ∙ w.if-contains.false))
    ]

pub returns-clause-readers : goal.returns-clause-readers
returns-clause-readers c = readers_end c.args.bundles.now (record { byte = c.args.byte; places = c.loop-index.places }) c.loop-index.index (omega (arith, c.loop-index-test.false)) c.loop-index.invariant

use Rattle.std.proofs.Common.{◌≡◌, Some, ap, sym, ◌∙◌, slice_get}
use Rattle.std.proofs.lemmas.Option.{slice_get-get_or}
use Rattle.marker_dfa.specs.Bundled.{automaton_in}
use Rattle.marker_dfa.specs.Making.{bytes_of}
use Rattle.marker_dfa.proofs.Bundling.{byte_at}
use Rattle.marker_dfa.proofs.RowsGrow.{so_far_more}
use Rattle.marker_dfa.proofs.subsets.cells_of.Goals as goal

pub cell_of-requires-clause-readers : goal.cell_of-requires-clause-readers
cell_of-requires-clause-readers c =
    let r = c.readers-item.result in
    let k = c.loop-readers.readers-index in
    let there : slice_get c.args.plan.now.by_byte.items k ≡ Some r = ap (λ l. slice_get l k) (sym c.deref-readers-items.ensures.value) ∙ slice_get-get_or c.deref-readers-items.result.now k r c.loop-readers-test.true ∙ ap Some (sym c.readers-item.is) in
    c.requires.readers k r there

pub loop-readers-preserved : goal.loop-readers-preserved
loop-readers-preserved c =
    let r = c.readers-item.result in
    let k = c.loop-readers.readers-index in
    let there : slice_get c.args.plan.now.by_byte.items k ≡ Some r = ap (λ l. slice_get l k) (sym c.deref-readers-items.ensures.value) ∙ slice_get-get_or c.deref-readers-items.result.now k r c.loop-readers-test.true ∙ ap Some (sym c.readers-item.is) in
    let at : slice_get (bytes_of c.args.plan.now.by_byte.items) k ≡ Some r.byte = byte_at c.args.plan.now.by_byte.items k r there in
    rw (c.in_ok-push.ensures.items) (so_far_more c.args.plan.now.most (automaton_in c.args.nfa.now) c.args.exits.now.from (bytes_of c.args.plan.now.by_byte.items) k _ _ _ _ _ c.in_ok-cell.cell at c.loop-readers.invariant c.in_ok-cell.ensures.found c.in_ok-cell.ensures.extends c.in_ok-cell.ensures.cell)

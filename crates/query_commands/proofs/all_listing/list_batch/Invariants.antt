use Rattle.query_commands.proofs.Names.{AreAnswered, IsUpTo, List, outlet, rest_text, Tuple, ◌+◌}
use Rattle.query_commands.proofs.all_listing.list_batch.Given as goal

abbrev pub invariant-loop-index : goal.invariant-loop-index
invariant-loop-index g l = (lists : List (List Tuple)) → AreAnswered l.all_listing.dfa.now l.all_listing.view.store.now l.all_listing.docs.now lists
    → IsUpTo (outlet (g.K.Sink.written l.fn.out) (g.K.Sink.faults l.fn.out) (g.K.Sink.wants l.fn.out)) (outlet (g.K.Sink.written l.out) (g.K.Sink.faults l.out) (g.K.Sink.wants l.out))
    (rest_text l.all_listing.vars.now l.all_listing.limit l.all_listing.docs.now lists (l.first + l.index)) (rest_text l.all_listing.vars.now l.all_listing.limit l.all_listing.docs.now lists l.first)

use Rattle.std.proofs.Common.{subst}
use Rattle.marker_dfa.specs.Deterministic.{states_of}
use Rattle.query_book.proofs.TakenCounts.{IsTaken, taken-first}
use Rattle.query_book.proofs.counting.count_query.Goals as goal

pub grow-done-requires-clause-true_tables : goal.grow-done-requires-clause-true_tables
grow-done-requires-clause-true_tables g c κs within =
    let n = states_of c.args.tabled.now.query.dfa in
    let taken = subst (λ o. IsTaken n o c.in_ok-counts.counts) c.take.ensures.value c.in_ok-counts.ensures.tables in
    (taken-first n c.in_ok-counts.counts c.args.tabled.now.query.dfa c.args.lent.store.now c.args.tabled.now.counts taken c.requires.served.counts).tables

use Rattle.query_commands.proofs.Names.{refl}
use native.Mathlib.Numerals.{unary_clauses}
use Rattle.query_commands.proofs.Facts.{batch_left, found_sizes, passed, sent_on, starts, stops}
use Rattle.query_commands.proofs.all_listing.list_batch.Goals as goal

pub write_document-requires : goal.write_document-requires
write_document-requires g c = found_sizes c.in_ok-found.ensures c.loop-index.index c.at.ensures c.tuples.ensures c.more.ensures _ c.requires.all_listing.variables

pub loop-index-init : goal.loop-index-init
loop-index-init g c = λ lists are. simp unary_clauses (starts _ _)

pub loop-index-preserved : goal.loop-index-preserved
loop-index-preserved g c = λ lists are.
    sent_on _ _ _ (batch_left c.in_ok-found.ensures c.loop-index.index c.at.ensures c.tuples.ensures c.more.ensures _ lists are (c.loop-index.invariant lists are)) refl c.in_ok-write_document.ensures

pub returns-in_err-write_document-clause-stopped : goal.returns-in_err-write_document-clause-stopped
returns-in_err-write_document-clause-stopped g c =
    passed _ _ _ _ c.from_residual-in_err-write_document.ensures.1 (λ lists are.
    stops _ _ _ (batch_left c.in_ok-found.ensures c.loop-index.index c.at.ensures c.tuples.ensures c.more.ensures _ lists are (c.loop-index.invariant lists are)) refl c.in_err-write_document.ensures)

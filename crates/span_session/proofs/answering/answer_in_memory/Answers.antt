use Rattle.span_session.proofs.Names.{IsConsistent, rules, subst, sym}
use Rattle.span_session.proofs.Remaining.{on_queries}
use Rattle.span_session.proofs.answering.answer_in_memory.Goals as goal

pub answer_query-requires-clause-on_queries : goal.answer_query-requires-clause-on_queries
answer_query-requires-clause-on_queries g c =
    let is = on_queries c.args.command c.requires.in_memory c.in_default.not-Text c.in_default.not-QuotedText c.in_default.not-LetDoc c.in_default.not-DropDoc c.in_default.not-Show c.in_default.not-ReplaceDoc c.in_default.not-MarkDocs c.in_default.not-UnmarkDocs c.in_default.not-BackDocs c.in_default.not-Compact in search rules

pub compact-requires : goal.compact-requires
compact-requires g c = subst IsConsistent (sym c.settle.ensures) c.requires.session

pub returns-in-Compact-clause-done : goal.returns-in-Compact-clause-done
returns-in-Compact-clause-done g c files faults = rw (c.in-Compact.is, ← c.settle.ensures) (c.compact.ensures.done files faults _ _ _)

pub returns-in-Compact-clause-stopped : goal.returns-in-Compact-clause-stopped
returns-in-Compact-clause-stopped g c files faults = rw (c.in-Compact.is, ← c.settle.ensures) (c.compact.ensures.stopped files faults _ _ _)

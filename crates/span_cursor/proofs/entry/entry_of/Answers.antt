use Rattle.std.proofs.Common.{IsTrue, subst}
use Rattle.line_parts.proofs.Cuts.{not_true}
use Rattle.span_cursor.proofs.EntryLemmas.{same_entry}
use Rattle.span_cursor.proofs.entry.entry_of.Goals as goal

pub returns-then-not-is_same : goal.returns-then-not-is_same
returns-then-not-is_same c = λ value rest entry.
    let same = same_entry c.args.text.now c.in_ok-found.found.now c.args.name.now c.in_ok-found.rest.now rest c.in_ok-found.value value c.in_ok-found.ensures entry in
    not_true (subst IsTrue c.if-not-is_same.true (c.is_same.ensures.1 same.0))

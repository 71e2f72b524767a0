use Rattle.std.proofs.Common.{sym, ◌∙◌}
use Rattle.line_parts.proofs.Cuts.{not_true}
use Rattle.span_cursor.proofs.EntryLemmas.{no_equals, entry_parts}
use Rattle.span_cursor.proofs.entry.entry_at.Goals as goal

pub returns-in_err-name : goal.returns-in_err-name
returns-in_err-name c = rw c.from_residual.ensures (λ name value rest entry. no_equals c.args.text.now name rest value c.in_err-name.ensures entry)

pub returns-then-not-is_well_named : goal.returns-then-not-is_well_named
returns-then-not-is_well_named c = λ name value rest entry.
    let parts = entry_parts c.args.text.now c.in_ok-name.name.now c.in_ok-name.behind.now name rest value c.in_ok-name.ensures.0 c.in_ok-name.ensures.1 entry in
    not_true (sym c.if-not-is_well_named.true ∙ c.is_well_named.ensures ∙ parts.0)

pub returns-in_err-value : goal.returns-in_err-value
returns-in_err-value c = rw c.from_residual-in_err-value.ensures (λ name value rest entry.
    let parts = entry_parts c.args.text.now c.in_ok-name.name.now c.in_ok-name.behind.now name rest value c.in_ok-name.ensures.0 c.in_ok-name.ensures.1 entry in
    c.in_err-value.ensures value rest entry.spanned parts.1)

use Rattle.std.proofs.Common.{◌≡◌, ap, sym, ◌∙◌}
use Rattle.std.proofs.lemmas.Bool.{ne_eqb}
use Rattle.state_tables.specs.Digest.{digest_of}
use Rattle.state_tables.proofs.ClassedTables.{tables-same}
use Rattle.state_tables.proofs.CodedRows.{digests-apart}
use Rattle.state_tables.proofs.table.TablePartialEq.eq.Goals as goal

pub returns-then-has_form_of : goal.returns-then-has_form_of
returns-then-has_form_of c = c.if-has_form_of.true ∙ sym (tables-same c.args.self.now c.args.other.now c.if-has_form_of.ensures)

pub returns-else-self-other : goal.returns-else-self-other
returns-else-self-other c =
    let one : c.self.inside.digest ≡ digest_of c.args.self.now = c.self.invariant.digest_is ∙ ap digest_of c.self.view_is in
    let two : c.other.inside.digest ≡ digest_of c.args.other.now = c.other.invariant.digest_is ∙ ap digest_of c.other.view_is in
    let apart = ne_eqb c.self.inside.digest c.other.inside.digest c.if-self-other.false in
    apart ∙ sym (digests-apart c.args.self.now c.args.other.now (rw (← one, ← two) apart))

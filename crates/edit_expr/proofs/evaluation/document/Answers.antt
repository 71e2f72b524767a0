use Rattle.std.proofs.Common.{◌∙◌, ap, sym, ok_or, Err, inr}
use Rattle.doc_book.specs.declared.Missing.TheVariants.{NoSuchDocument as Absent}
use Rattle.doc_book.specs.Docs.{root_of}
use Rattle.edit_expr.specs.declared.refusal.EditRefusal.TheVariants.{NoSuchDocument}
use Rattle.edit_expr.proofs.NamedLemmas.{named-plain, missing-plain}
use Rattle.edit_expr.proofs.evaluation.document.Goals as goal

pub returns-in-Ok : goal.returns-in-Ok
returns-in-Ok c = named-plain c.args.store.now c.args.docs.now c.args.name.now c.requires c.in-Ok.root (c.in-Ok.ensures ∙ ap (λ n. ok_or (root_of c.args.docs.now n) Absent) c.bytes.ensures.value)

pub returns-in_ok-name-in-Err : goal.returns-in_ok-name-in-Err
returns-in_ok-name-in-Err c =
    inr (missing-plain c.args.store.now c.args.docs.now c.args.name.now c.in-Err.field-0 (c.in-Err.ensures ∙ ap (λ n. ok_or (root_of c.args.docs.now n) Absent) c.bytes.ensures.value)
    ∙ sym (ap (λ n. Err (NoSuchDocument n)) c.in_ok-name-in-Err.ensures))

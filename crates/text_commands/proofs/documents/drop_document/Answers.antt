use Rattle.text_commands.proofs.Names.{ap, Doc, free_answers, List, refl, state_of, ◌∙◌}
use Rattle.doc_book.specs.Docs as book
use Rattle.text_commands.proofs.Facts.{AreLive-taken_out, document_is, document_lacks, drop_carries, plain-taken_out, some_value}
use Rattle.text_commands.proofs.documents.drop_document.Goals as goal

pub returns-in-Ok-clause-done : goal.returns-in-Ok-clause-done
returns-in-Ok-clause-done c = λ files faults looks pairs places.
    let h = c.args.session.now in
    let name = c.bytes.result.now in
    let root = some_value (book.root_of h.docs name) c.in-Ok.ensures.ok in
    rw (← c.bytes.ensures.value, c.take_out.ensures.rest) (free_answers h (book.taken_out h.docs name) h.versions _ _ _ files _ _ _ _ _ _ c.requires (AreLive-taken_out h.store h.docs name c.requires.live) c.requires.kept (λ no. no) (λ no. no) refl refl
    (drop_carries (state_of h) _ _ name _ _ _ files (document_is h.store h.docs name root.0 root.1) (plain-taken_out h.store h.docs name) c.accepted.ensures.0 (ap (λ v. v.items) c.accepted.ensures.1 ∙ c.in_ok-line.ensures)))

pub returns-in-Err-NoSuchDocument : goal.returns-in-Err-NoSuchDocument
returns-in-Err-NoSuchDocument c =
    let h = c.args.session.now in
    let e = c.in-Err-NoSuchDocument.ensures in
    let missing = rw c.bytes.ensures.value at (document_lacks h.store h.docs c.bytes.result.now e.err) in
    let same = ap (λ (d : List Doc). record h { docs = d }) e.same in
    record {
      done = λ files faults looks pairs places. c.reject.ensures.done h _ files faults looks pairs places (record { session = c.requires; refused = (missing, refl); free = refl }) same;
      stopped = c.reject.ensures.stopped h _ c.requires same;
    }

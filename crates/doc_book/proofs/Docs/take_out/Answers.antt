use Rattle.std.proofs.Common.{rules, ap, ◌∙◌, sym, ◌≡◌, Some, None}
use Rattle.doc_book.specs.Docs.{root_of, taken_out}
use Rattle.doc_book.specs.Named.{docs_of}
use Rattle.doc_book.proofs.BookLemmas.{root-docs, taken_out-docs}
use Rattle.doc_book.proofs.Docs.take_out.Goals.{in-Some, in-None}
use Rattle.doc_book.proofs.Docs.take_out.Goals as goal

pub returns-clause-rest : goal.returns-clause-rest
returns-clause-rest c = ap docs_of c.take_out.ensures.rest ∙ (taken_out-docs c.self.inside.by_name c.args.name.now ∙ ap (λ ds. taken_out ds c.args.name.now) c.self.view_is)

pub returns-clause-ok : goal.returns-clause-ok
returns-clause-ok c =
    let e : c.take_out.result ≡ root_of c.args.self.now c.args.name.now = c.take_out.ensures.value ∙ (sym (root-docs c.self.inside.by_name c.args.name.now) ∙ ap (λ ds. root_of ds c.args.name.now) c.self.view_is) in
    elim c.match-take_out.branch [
      | in-Some w ↦ let p : root_of c.args.self.now c.args.name.now ≡ Some w.in-Some.field-0 = sym e ∙ w.in-Some.is in rw (w.result-is, p) (search rules)
      | in-None w ↦ rw (w.result-is) (search rules)
    ]

pub returns-clause-err : goal.returns-clause-err
returns-clause-err c =
    let e : c.take_out.result ≡ root_of c.args.self.now c.args.name.now = c.take_out.ensures.value ∙ (sym (root-docs c.self.inside.by_name c.args.name.now) ∙ ap (λ ds. root_of ds c.args.name.now) c.self.view_is) in
    elim c.match-take_out.branch [
      | in-Some w ↦ rw (w.result-is) (search rules)
      | in-None w ↦ let p : root_of c.args.self.now c.args.name.now ≡ None = sym e ∙ w.in-None.is in rw (w.result-is, p) (search rules)
    ]

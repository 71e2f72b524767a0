use Rattle.std.proofs.Common.{ap, ◌∙◌, subst, sym, ◌<◌, length, slice_get}
use Rattle.std.proofs.lemmas.List.{length-map}
use Rattle.doc_book.specs.Named.{doc}
use Rattle.doc_book.proofs.BookLemmas.{get-docs}
use Rattle.doc_book.proofs.Docs.at.Goals as goal

pub at-requires : goal.at-requires
at-requires c = subst (λ n. c.args.index < n) (ap length (sym c.self.view_is) ∙ length-map c.self.inside.by_name doc) c.requires

pub returns : goal.returns
returns c = ap (λ ds. slice_get ds c.args.index) (sym c.self.view_is) ∙ get-docs c.self.inside.by_name c.args.index (c.at.result.0.now, c.at.result.1.now) c.at.ensures

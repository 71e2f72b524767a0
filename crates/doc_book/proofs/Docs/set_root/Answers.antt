use Rattle.std.proofs.Common.{ap, ◌∙◌, subst, sym, ◌<◌, length}
use Rattle.std.proofs.lemmas.List.{length-map}
use Rattle.doc_book.specs.Docs.{with_root}
use Rattle.doc_book.specs.Named.{doc}
use Rattle.doc_book.proofs.BookLemmas.{with_root-docs}
use Rattle.doc_book.proofs.Docs.set_root.Goals as goal

pub value_mut-requires : goal.value_mut-requires
value_mut-requires c = subst (λ n. c.args.index < n) (ap length (sym c.self.view_is) ∙ length-map c.self.inside.by_name doc) c.requires

pub returns : goal.returns
returns c = with_root-docs c.self.inside.by_name c.args.index c.args.root ∙ ap (λ ds. with_root ds c.args.index c.args.root) c.self.view_is

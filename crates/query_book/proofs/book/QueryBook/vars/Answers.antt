use Rattle.std.proofs.Common.{ap, ◌∙◌, sym, Some}
use Rattle.std.specs.Option.{option_map}
use Rattle.span_types.specs.Query.{query_of}
use Rattle.span_types.specs.Rel.{names_of}
use Rattle.query_book.proofs.Views.{value-by_name}
use Rattle.query_book.proofs.book.QueryBook.vars.Goals as goal

pub returns : goal.returns
returns c =
    ap (λ o. option_map names_of o) (value-by_name (λ t. query_of t.query.tree) c.args.self.now.entries c.args.name.now)
    ∙ (ap (λ o. option_map names_of (option_map (λ t. query_of t.query.tree) o)) c.in_ok-tabled.ensures.found
    ∙ ap Some (sym c.in_ok-tabled.ensures.sound.compiled.names))

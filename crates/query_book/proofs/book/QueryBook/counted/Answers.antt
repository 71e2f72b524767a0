use Rattle.std.proofs.Common.{ap, ◌∙◌}
use Rattle.std.specs.Option.{option_map}
use Rattle.span_types.specs.Query.{query_of}
use Rattle.query_book.specs.declared.entry.TabledQuery.{TabledQuery}
use Rattle.query_book.proofs.Views.{value-by_name}
use Rattle.query_book.proofs.NumberLaws.{counts-found}
use Rattle.query_book.proofs.book.QueryBook.counted.Goals as goal

pub returns-clause-query : goal.returns-clause-query
returns-clause-query c =
    value-by_name (λ t. query_of t.query.tree) c.args.self.now.entries c.args.name.now ∙ ap (λ o. option_map (λ (t : TabledQuery). query_of t.query.tree) o) c.in_ok-tabled.ensures.found

pub returns-clause-counts : goal.returns-clause-counts
returns-clause-counts c = counts-found c.args.store.now c.args.self.now c.args.name.now c.in_ok-tabled.tabled.now c.requires.serves c.requires.counted c.in_ok-tabled.ensures.sound c.in_ok-tabled.ensures.found

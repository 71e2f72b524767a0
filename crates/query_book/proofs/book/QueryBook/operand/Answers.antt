use Rattle.std.proofs.Common.{ap, ◌∙◌}
use Rattle.std.specs.Option.{option_map}
use Rattle.span_types.specs.Query.{query_of}
use Rattle.query_book.specs.declared.entry.TabledQuery.{TabledQuery}
use Rattle.query_book.proofs.Views.{value-by_name}
use Rattle.query_book.proofs.book.QueryBook.operand.Goals as goal

pub returns-in-Ok-clause-there : goal.returns-in-Ok-clause-there
returns-in-Ok-clause-there c = value-by_name (λ t. query_of t.query.tree) c.args.self.now.entries c.args.name.now ∙ ap (λ o. option_map (λ (t : TabledQuery). query_of t.query.tree) o) c.in-Ok.ensures.found

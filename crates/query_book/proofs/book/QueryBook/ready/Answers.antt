use Rattle.std.proofs.Common.{ap, ◌∙◌}
use Rattle.std.specs.Option.{option_map}
use Rattle.span_types.specs.Query.{query_of}
use Rattle.query_book.specs.declared.entry.TabledQuery.{TabledQuery}
use Rattle.query_book.proofs.Views.{value-by_name}
use Rattle.query_book.proofs.Covered.{served-found}
use Rattle.query_book.proofs.book.QueryBook.ready.Goals as goal

pub invariant_of-result : goal.invariant_of-result
invariant_of-result c =
    let s = served-found c.args.store.now c.args.self.now c.args.name.now c.in_ok-tabled.tabled.now c.requires c.in_ok-tabled.ensures.found in
    record {
      sound = c.in_ok-tabled.ensures.sound;
      nodes = c.count-nodes.ensures.sound;
      tables = s.tables;
      all = c.requires.tables c.in_ok-tabled.tabled.now c.in_ok-tabled.ensures.found;
      counts = s.counts;
    }

pub returns-clause-query : goal.returns-clause-query
returns-clause-query c =
    value-by_name (λ t. query_of t.query.tree) c.args.self.now.entries c.args.name.now ∙ ap (λ o. option_map (λ (t : TabledQuery). query_of t.query.tree) o) c.in_ok-tabled.ensures.found

pub returns-clause-counted : goal.returns-clause-counted
returns-clause-counted c = λ n has. has c.in_ok-tabled.tabled.now c.in_ok-tabled.ensures.found

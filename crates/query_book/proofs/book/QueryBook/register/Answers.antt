use Rattle.std.proofs.Common.{ap, ◌∙◌, subst, sym}
use Rattle.span_types.specs.Query.{query_of}
use Rattle.state_tables.specs.Dictionary.{count_of}
use Rattle.std.specs.Prelude.{unwrap_or}
use Rattle.std.specs.Option.{option_map}
use Rattle.count_tables.specs.Dictionary as counting
use Rattle.query_book.specs.Counting.{counted}
use Rattle.query_book.specs.Named.{put}
use Rattle.query_book.specs.Book.{queries_in, queries_of}
use Rattle.query_book.specs.Serving.{AreServed, counted_in, counted_of, covered_in, covered_of}
use Rattle.query_book.proofs.Views.{by_name-with_entry}
use Rattle.query_book.proofs.Served.{served-none, serves-with_entry}
use Rattle.query_book.proofs.book.QueryBook.register.Goals as goal

pub returns-clause-ok : goal.returns-clause-ok
returns-clause-ok c =
    ap queries_in c.in_ok-put.ensures.ok
    ∙ (by_name-with_entry (λ t. query_of t.query.tree) c.args.self.now.entries c.in_ok-entry.entry
    ∙ (λ j. put (queries_of c.args.self.now) (c.in_ok-entry.ensures.name_is j) (query_of (c.in_ok-entry.ensures.query_is j).tree)))

pub returns-clause-covered : goal.returns-clause-covered
returns-clause-covered c =
    ap covered_in c.in_ok-put.ensures.ok
    ∙ (by_name-with_entry (λ t. count_of t.tables) c.args.self.now.entries c.in_ok-entry.entry
    ∙ (λ j. put (covered_of c.args.self.now) (c.in_ok-entry.ensures.name_is j) (c.in_ok-entry.ensures.none j)))

pub returns-clause-counted : goal.returns-clause-counted
returns-clause-counted c =
    ap counted_in c.in_ok-put.ensures.ok
    ∙ (by_name-with_entry counted c.args.self.now.entries c.in_ok-entry.entry
    ∙ (λ j. put (counted_of c.args.self.now) (c.in_ok-entry.ensures.name_is j) (unwrap_or (option_map counting.count_of (c.in_ok-entry.ensures.uncounted j)) 0)))

pub returns-clause-serves : goal.returns-clause-serves
returns-clause-serves c = λ ns h. subst (AreServed ns) (sym c.in_ok-put.ensures.ok) (serves-with_entry ns c.args.self.now.entries c.in_ok-entry.entry h (served-none ns c.in_ok-entry.entry.tabled c.in_ok-entry.ensures.none c.in_ok-entry.ensures.uncounted))

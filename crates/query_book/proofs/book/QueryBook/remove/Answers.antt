use Rattle.std.proofs.Common.{ap, ◌∙◌, sym, subst, Option, Some, None, OnOk, IsSome, Result, Ok, Err}
use Rattle.std.specs.Option.{option_map}
use Rattle.span_types.specs.Query.{query_of}
use Rattle.query_book.specs.declared.entry.TabledQuery.{TabledQuery}
use Rattle.query_book.specs.Book.{queries_in, tabled_of}
use Rattle.state_tables.specs.Dictionary.{count_of}
use Rattle.query_book.specs.Counting.{counted}
use Rattle.query_book.specs.Serving.{AreServed, counted_in, covered_in}
use Rattle.query_book.proofs.Views.{value-by_name, by_name-without_entry}
use Rattle.query_book.proofs.Served.{serves-without_entry}
use Rattle.query_book.proofs.book.QueryBook.remove.Goals as goal

some-map : {A B : Type 0} (f : A → B) (o : Option A) → IsSome o → IsSome (option_map f o)
some-map f (Some x) h = h
some-map f None h = h

on-ok : {A E : Type 0} (r : Result A E) (P Q : Type 0) → (P → Q) → OnOk r P → OnOk r Q
on-ok (Ok x) P Q f h = f h
on-ok (Err e) P Q f h = h

pub returns-clause-ok : goal.returns-clause-ok
returns-clause-ok c = on-ok c.take.result _ _ (λ h. subst IsSome (sym (value-by_name (λ t. query_of t.query.tree) c.args.self.now.entries c.args.name.now)) (some-map (λ (t : TabledQuery). query_of t.query.tree) (tabled_of c.args.self.now c.args.name.now) h)) c.take.ensures.ok

pub returns-clause-rest : goal.returns-clause-rest
returns-clause-rest c = ap queries_in c.take.ensures.rest ∙ by_name-without_entry (λ t. query_of t.query.tree) c.args.self.now.entries c.args.name.now

pub returns-clause-covered : goal.returns-clause-covered
returns-clause-covered c = ap covered_in c.take.ensures.rest ∙ by_name-without_entry (λ t. count_of t.tables) c.args.self.now.entries c.args.name.now

pub returns-clause-counted : goal.returns-clause-counted
returns-clause-counted c = ap counted_in c.take.ensures.rest ∙ by_name-without_entry counted c.args.self.now.entries c.args.name.now

pub returns-clause-serves : goal.returns-clause-serves
returns-clause-serves c = λ ns h. subst (AreServed ns) (sym c.take.ensures.rest) (serves-without_entry ns c.args.self.now.entries c.args.name.now h)

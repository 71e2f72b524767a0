use Rattle.query_commands.proofs.Names.{Err, Ok, OnOk, ◌∙◌}
use Rattle.query_book.specs.Serving.{CoversQuery}
use Rattle.query_commands.proofs.Facts.{grows_numbered}
use Rattle.query_commands.proofs.listing.grow_for.Goals as goal

pub returns-in-At-clause-grown : goal.returns-in-At-clause-grown
returns-in-At-clause-grown g c =
    grows_numbered c.args.page.now.start c.args.page.now.query _ _ _ _ _ _ _ c.grow.ensures.grown c.grow_counts.ensures.grown (rw c.in-At.is tt) c.grow_counts.ensures.missing

pub returns-in-At-clause-missing : goal.returns-in-At-clause-missing
returns-in-At-clause-missing g c = λ none.
    let first = c.grow.ensures.missing none in
    let next = c.grow_counts.ensures.missing (rw c.grow.ensures.grown.queries none) in
    (next.0 ∙ first.0, next.1 ∙ first.1)

pub returns-in-At-clause-all : goal.returns-in-At-clause-all
returns-in-At-clause-all g c =
    elim c.grow_counts.result as (λ r. OnOk r (CoversQuery c.args.store.now c.grow_counts.new.book c.args.page.now.query)) [ Ok _ ↦ c.grow_counts.ensures.covers _ c.in_ok-grow.ensures.all | Err _ ↦ tt ]

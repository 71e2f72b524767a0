use Rattle.std.proofs.Common.{Some, subst}
use Rattle.span_types.specs.Query.{query_of}
use Rattle.slp_model.specs.Nodes.{text_of}
use Rattle.query_book.specs.Numbers.{IsCursorAt}
use Rattle.query_book.proofs.NumberLaws.{listing-at}
use Rattle.query_book.proofs.in_hand.Ready.start_at.Goals as goal

pub returns-clause-listing : goal.returns-clause-listing
returns-clause-listing g c =
    let cursor : IsCursorAt (text_of c.args.self.now.nodes c.args.root) c.args.m (query_of c.args.self.now.tree) (Some c.in-Some.before) =
    rw (← c.self.view_is)
    (subst (λ o. IsCursorAt (text_of c.self.inside.store.now c.args.root) c.args.m (query_of c.self.inside.tabled.now.query.tree) o) c.in-Some.is c.in_ok-before.ensures.cursor) in
    listing-at c.seek.result (text_of c.args.self.now.nodes c.args.root) c.args.m (query_of c.args.self.now.tree) (Some c.in-Some.before) cursor c.seek.ensures.listing

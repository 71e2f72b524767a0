use Rattle.span_types.specs.Query.{query_of}
use Rattle.slp_model.specs.Nodes.{text_of}
use Rattle.query_book.proofs.Lists.{list-none}
use Rattle.query_book.proofs.in_hand.Ready.start.Goals as goal

pub returns-clause-list : goal.returns-clause-list
returns-clause-list g c =
    list-none (query_of c.args.self.now.tree) c.input.result.1.now (text_of c.args.self.now.nodes c.args.root) c.input.ensures.query c.input.ensures.automaton c.input.ensures.bytes c.input.ensures.short

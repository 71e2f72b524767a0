use Rattle.query_commands.proofs.Names.{ap, length, sym, ◌∙◌}
use Rattle.span_types.specs.Query.{query_of}
use Rattle.query_commands.proofs.Facts.{all_sends, lists_exist}
use Rattle.query_commands.proofs.all_listing.list_query.Goals as goal

pub list_documents-requires-clause-all_listing : goal.list_documents-requires-clause-all_listing
list_documents-requires-clause-all_listing g c κs within =
    let query = c.args.query.now in
    record {
      tables = rw (c.dfa.ensures.dfa, c.view.ensures.store) c.view.ensures.tables;
      live = rw (c.view.ensures.store) c.requires.live;
      some = c.requires.some;
      few = c.requires.few;
      variables = ap length c.vars.ensures ∙ sym c.dfa.ensures.texts.variables;
      answered = rw (c.view.ensures.store) (lists_exist c.dfa.result.now query.nodes (query_of query.tree) c.dfa.ensures.texts c.args.docs.now c.requires.live);
    }

pub returns : goal.returns
returns g c = λ w number looks pairs name registered documents.
    all_sends c.args.docs.now c.args.limit w number looks pairs name _ c.list_documents.result c.dfa.ensures.texts c.vars.ensures c.requires.live registered documents c.list_documents.ensures.told (λ lists are. c.list_documents.ensures.wrote lists (rw (c.view.ensures.store) are))

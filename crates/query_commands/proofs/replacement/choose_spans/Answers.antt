use Rattle.query_commands.proofs.Names.{ap, at, List, Node, refl, text_of, ◌≡◌}
use Rattle.span_replace.specs.Chosen.{chosen}
use Rattle.span_replace.specs.Longest.{longest}
use Rattle.query_commands.proofs.replacement.choose_spans.Goals as goal

pub returns-then-long-clause-choice : goal.returns-then-long-clause-choice
returns-then-long-clause-choice g c =
    let s = c.args.subject in
    let list = c.longest.ensures.list in
    let same : text_of c.view.result.store.now s.root ≡ text_of s.query.now.nodes s.root = ap (λ (ns : List Node). text_of ns s.root) c.view.ensures.store in
    rw c.if-long.true (record {
      spans = longest list.0;
      chosen = record { all = list.0; answers = (c.dfa-dfa.ensures.texts.same s.root list.0 c.requires.live).0 (rw same at list.1); is = refl };
      choice = c.longest.ensures.choice list.0 list.1;
      cost = rw same at (c.longest.ensures.cost list.0 list.1);
    })

pub returns-else-long-clause-choice : goal.returns-else-long-clause-choice
returns-else-long-clause-choice g c =
    let s = c.args.subject in
    let list = c.chosen.ensures.list in
    let same : text_of c.view-else-long.result.store.now s.root ≡ text_of s.query.now.nodes s.root = ap (λ (ns : List Node). text_of ns s.root) c.view-else-long.ensures.store in
    rw c.if-long.false (record {
      spans = chosen list.0;
      chosen = record { all = list.0; answers = (c.dfa-dfa.ensures.texts.same s.root list.0 c.requires.live).0 (rw same at list.1); is = refl };
      choice = c.chosen.ensures.choice list.0 list.1;
      cost = rw same at (c.chosen.ensures.cost list.0 list.1);
    })

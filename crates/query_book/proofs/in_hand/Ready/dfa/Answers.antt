use Rattle.span_types.specs.Query.{query_of}
use Rattle.query_book.proofs.InHand.{answers-in}
use Rattle.query_book.proofs.Lent.{has-answers}
use Rattle.query_book.proofs.in_hand.Ready.dfa.Goals as goal

pub returns-clause-query : goal.returns-clause-query
returns-clause-query c =
    rw (← c.self.view_is) (has-answers (query_of c.self.inside.tabled.now.query.tree) c.self.inside.tabled.now.query.dfa c.self.invariant.sound.compiled.defines c.states-states.ensures.automaton)

pub returns-clause-texts : goal.returns-clause-texts
returns-clause-texts c = rw (← c.self.view_is) (answers-in c.self.inside.store.now c.self.inside.tabled.now c.self.invariant c.states-states.ensures.automaton)

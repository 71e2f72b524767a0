use Rattle.query_book.proofs.NumberLaws.{number-saturated}
use Rattle.query_book.proofs.numbers.number_of.Goals as goal

pub returns : goal.returns
returns c = number-saturated c.args.store.now c.args.tabled.now c.args.root c.requires.counts c.states-states.ensures.automaton c.count-nodes.ensures.sound c.requires.live c.number.result c.number.ensures

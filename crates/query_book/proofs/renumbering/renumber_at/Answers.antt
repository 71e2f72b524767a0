use Rattle.query_book.proofs.Growth.{sound-at}
use Rattle.query_book.proofs.Renumbered.{within-at}
use Rattle.query_book.proofs.renumbering.renumber_at.Goals as goal

pub renumber_query-requires-clause-sound : goal.renumber_query-requires-clause-sound
renumber_query-requires-clause-sound c = sound-at c.args.by_name.now c.args.index c.value_mut-tabled.result.now c.requires.kept c.value_mut-tabled.ensures.value

pub renumber_query-requires-clause-within : goal.renumber_query-requires-clause-within
renumber_query-requires-clause-within c = within-at c.args.moves.now c.args.by_name.now c.args.index c.value_mut-tabled.result.now c.requires.within c.value_mut-tabled.ensures.value

use Rattle.state_tables.specs.StateSet.{number_of_words}
use Rattle.state_tables.specs.Coded.{list_of}
use Rattle.state_tables.proofs.Collecting.{none-taken}
use Rattle.state_tables.proofs.reached.reach_set.Goals as goal

pub add_set-requires-clause-collecting : goal.add_set-requires-clause-collecting
add_set-requires-clause-collecting c = record {
  room = c.requires.room;
  has_taken = none-taken (list_of c.args.rows.now).rows (number_of_words c.args.taken.now) (number_of_words c.args.words.now) c.requires.none;
}

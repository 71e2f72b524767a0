use Rattle.query_tests.proofs.Grown.{tables-grow}
use Rattle.query_tests.proofs.tables.grown_again.Goals as goal

pub grow-requires-clause-true_tables : goal.grow-requires-clause-true_tables
grow-requires-clause-true_tables g c κs within =
    tables-grow c.args.dfa.now c.args.store.now c.load_letters.new.store c.args.steps.now c.load_letters.new.pairs c.args.grown.now.tables c.in_ok-load_letters.ensures c.requires.covered c.requires.true_tables

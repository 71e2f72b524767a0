use Rattle.state_tables.proofs.Words.{bit-gone, bit-others, bit-less, single-bit}
use Rattle.state_tables.proofs.state_set.without.Goals as goal

pub returns-clause-gone : goal.returns-clause-gone
returns-clause-gone c = rw (single-bit c.args.bit c.requires.few) (bit-gone c.args.word c.args.bit c.requires.bit)

pub returns-clause-others : goal.returns-clause-others
returns-clause-others c = λ i ne. rw (single-bit c.args.bit c.requires.few) (bit-others c.args.word c.args.bit i ne)

pub returns-clause-less : goal.returns-clause-less
returns-clause-less c = rw (single-bit c.args.bit c.requires.few) (bit-less c.args.word c.args.bit c.requires.bit)

use Rattle.std.proofs.Common.{arith}
use Rattle.slp_model.proofs.NodesLemmas.{Grows-none}
use Rattle.span_replace.proofs.replacement.replaced.Goals as goal

pub returns-then-len-gt-LONGEST-clause-grows : goal.returns-then-len-gt-LONGEST-clause-grows
returns-then-len-gt-LONGEST-clause-grows g c = Grows-none c.args.store.now c.args.pairs.now c.args.pairs.now (omega arith)

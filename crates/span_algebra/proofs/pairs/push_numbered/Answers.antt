use Rattle.span_algebra.proofs.EdgeLaws.{numbered-by}
use Rattle.span_algebra.proofs.pairs.push_numbered.Goals as goal

pub returns : goal.returns
returns c = numbered-by c.args.pairs.now c.args.step.now c.args.edges.now c.push.new.self c.index_of.result c.index_of-2.result c.requires.few.apart c.index_of.ensures c.index_of-2.ensures c.in_ok-push.ensures

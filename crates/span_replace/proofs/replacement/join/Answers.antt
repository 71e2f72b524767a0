use Rattle.std.proofs.Common.{arith}
use Rattle.slp_model.specs.Nodes.{root_tree}
use Rattle.slp_model.proofs.TreeLemmas.{length-root_text}
use Rattle.span_replace.proofs.replacement.join.Goals as goal

pub concat-requires-clause-short : goal.concat-requires-clause-short
concat-requires-clause-short g c =
    omega (arith, c.requires.short, length-root_text (root_tree c.args.store.now c.args.left), length-root_text (root_tree c.args.store.now c.args.right))

use Rattle.std.proofs.Common.{arith}
use Rattle.slp_model.specs.Nodes.{root_tree}
use Rattle.slp_model.proofs.TreeLemmas.{length-root_text}
use Rattle.edit_expr.proofs.edits.join.Goals as goal

pub concat-requires-clause-short : goal.concat-requires-clause-short
concat-requires-clause-short g c = omega (arith, c.root_len-first.ensures.len, c.root_len-second.ensures.len, length-root_text (root_tree c.args.store.now c.args.left), length-root_text (root_tree c.args.store.now c.args.right), c.if-len-gt-LONGEST.false)

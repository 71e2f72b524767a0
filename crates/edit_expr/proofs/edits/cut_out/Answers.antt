use Rattle.std.proofs.Common.{◌∙◌, sym}
use Rattle.edit_expr.proofs.CutLemmas.{range-within}
use Rattle.edit_expr.proofs.edits.cut_out.Goals as goal

pub extract-requires-clause-to : goal.extract-requires-clause-to
extract-requires-clause-to g c = range-within c.args.store.now c.args.root c.args.i c.args.j c.root_len-len.result c.root_len-len.ensures.len (sym c.is_within.ensures ∙ c.if-not-is_within.false)

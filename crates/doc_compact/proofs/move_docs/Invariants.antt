use Rattle.std.proofs.Common.{◌≡◌}
use Rattle.doc_compact.proofs.Moving.{docs_first}
use Rattle.doc_compact.proofs.move_docs.Given as goal

abbrev pub invariant-loop-index : goal.invariant-loop-index
invariant-loop-index l = l.docs ≡ docs_first l.moves l.index l.fn.docs

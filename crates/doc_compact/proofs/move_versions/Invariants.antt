use Rattle.std.proofs.Common.{◌≡◌}
use Rattle.doc_compact.proofs.Moving.{versions_first}
use Rattle.doc_compact.proofs.move_versions.Given as goal

abbrev pub invariant-loop-index : goal.invariant-loop-index
invariant-loop-index l = l.versions ≡ versions_first l.moves l.index l.fn.versions

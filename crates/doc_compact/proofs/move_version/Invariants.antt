use Rattle.std.proofs.Common.{◌≡◌}
use Rattle.doc_versions.specs.Versions.{docs_at}
use Rattle.name_map.specs.Named.{with_value}
use Rattle.doc_compact.proofs.Moving.{docs_first}
use Rattle.doc_compact.proofs.move_version.Given as goal

abbrev pub invariant-loop-doc : goal.invariant-loop-doc
invariant-loop-doc l = l.versions ≡ with_value l.fn.versions l.index (docs_first l.moves l.doc (docs_at l.fn.versions l.index))

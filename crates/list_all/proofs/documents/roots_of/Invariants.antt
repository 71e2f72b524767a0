use Rattle.list_all.specs.Pages.{AreRoots}
use Rattle.list_all.proofs.documents.roots_of.Given as goal

abbrev pub invariant-loop-index : goal.invariant-loop-index
invariant-loop-index l = AreRoots l.docs l.first l.index l.roots.items

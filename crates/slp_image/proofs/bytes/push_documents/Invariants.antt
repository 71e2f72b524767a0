use Rattle.slp_model.specs.Thin.{rank}
use Rattle.slp_image.specs.Saved.{AreSaved}
use Rattle.slp_image.proofs.bytes.push_documents.Given as goal

abbrev pub invariant-loop-index : goal.invariant-loop-index
invariant-loop-index l = AreSaved (rank l.moves) l.docs l.index l.initial.out.items l.out.items

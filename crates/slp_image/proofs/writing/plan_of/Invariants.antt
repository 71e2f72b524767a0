use Rattle.std.proofs.Common.{take}
use Rattle.slp_model.specs.Kept.{IsPlanOf}
use Rattle.slp_model.specs.Thin.{KeepsExactly}
use Rattle.doc_book.specs.Docs.{roots_of}
use Rattle.slp_image.proofs.writing.plan_of.Given as goal

abbrev pub invariant-loop-index : goal.invariant-loop-index
invariant-loop-index l = record { plan : IsPlanOf l.store l.plan; kept : KeepsExactly l.store l.plan (roots_of (take l.index l.docs)) }

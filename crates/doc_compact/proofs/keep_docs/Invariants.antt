use Rattle.std.proofs.Common.{take}
use Rattle.slp_model.specs.Kept.{AddsExactly, IsPlanOf}
use Rattle.slp_model.specs.Thin.{AnyReaches}
use Rattle.doc_book.specs.Docs.{roots_of}
use Rattle.doc_compact.proofs.keep_docs.Given as goal

abbrev pub invariant-loop-index : goal.invariant-loop-index
invariant-loop-index l = record {
  kept : AddsExactly l.fn.plan l.plan (AnyReaches l.store (roots_of (take l.index l.docs)));
  plan : IsPlanOf l.store l.plan;
}

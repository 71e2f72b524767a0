use Rattle.std.proofs.Common.{take}
use Rattle.slp_model.specs.Kept.{AddsExactly, IsPlanOf}
use Rattle.slp_model.specs.Thin.{AnyReaches}
use Rattle.doc_versions.specs.Texts.{version_roots}
use Rattle.doc_compact.proofs.keep_versions.Given as goal

abbrev pub invariant-loop-index : goal.invariant-loop-index
invariant-loop-index l = record {
  kept : AddsExactly l.fn.plan l.plan (AnyReaches l.store (version_roots (take l.index l.versions)));
  plan : IsPlanOf l.store l.plan;
}

use Rattle.std.proofs.Common.{sym, subst, take, suc, ℕ, List, add-one}
use Rattle.slp_model.specs.Kept.{AddsExactly}
use Rattle.slp_model.specs.Thin.{AnyReaches}
use Rattle.doc_book.specs.declared.Doc.{Doc}
use Rattle.doc_book.specs.Docs.{roots_of}
use Rattle.doc_versions.specs.Texts.{version_roots}
use Rattle.doc_compact.proofs.Reached.{adds-both, any-next_version, kept-at}
use Rattle.doc_compact.proofs.keep_versions.Goals as goal

pub keep_docs-requires-clause-live : goal.keep_docs-requires-clause-live
keep_docs-requires-clause-live c =
    kept-at c.args.store.now c.args.versions.now c.loop-index.index (c.at.result.0.now, c.at.result.1.now) c.requires.kept c.at.ensures

pub loop-index-preserved : goal.loop-index-preserved
loop-index-preserved c =
    let v : List ℕ × List Doc = (c.at.result.0.now, c.at.result.1.now) in
    let ns = c.args.store.now in
    let vs = c.args.versions.now in
    let index = c.loop-index.index in
    let both = any-next_version ns vs index v c.at.ensures in
    let more = adds-both c.args.plan.now c.loop-index.plan c.keep_docs.new.plan (AnyReaches ns (version_roots (take index vs))) (AnyReaches ns (roots_of v.1)) (AnyReaches ns (version_roots (take (suc index) vs))) both
    c.loop-index.invariant.kept c.in_ok-keep_docs.ensures.kept in
    record {
      kept = subst (λ (n : ℕ). AddsExactly c.args.plan.now c.keep_docs.new.plan (AnyReaches ns (version_roots (take n vs)))) (sym (add-one index)) more;
      plan = c.in_ok-keep_docs.ensures.plan;
    }

use Rattle.std.proofs.Common.{sym, subst, take, suc, ℕ, add-one}
use Rattle.slp_model.specs.Kept.{AddsExactly, RootReaches}
use Rattle.slp_model.specs.Thin.{AnyReaches}
use Rattle.doc_book.specs.declared.Doc.{Doc}
use Rattle.doc_book.specs.Docs.{roots_of}
use Rattle.doc_book.proofs.TextLemmas.{live-at}
use Rattle.doc_compact.proofs.Reached.{adds-both, any-next}
use Rattle.doc_compact.proofs.keep_docs.Goals as goal

pub keep_root-requires-clause-live : goal.keep_root-requires-clause-live
keep_root-requires-clause-live c =
    let d : Doc = record { name = c.at-root.result.0.now; root = c.at-root.result.1 } in
    live-at c.args.store.now c.args.docs.now c.loop-index.index d c.requires.live c.at-root.ensures

pub loop-index-preserved : goal.loop-index-preserved
loop-index-preserved c =
    let d : Doc = record { name = c.at-root.result.0.now; root = c.at-root.result.1 } in
    let ns = c.args.store.now in
    let ds = c.args.docs.now in
    let index = c.loop-index.index in
    let both = any-next ns ds index d c.at-root.ensures in
    let more = adds-both c.args.plan.now c.loop-index.plan c.keep_root.new.self (AnyReaches ns (roots_of (take index ds))) (RootReaches ns d.root) (AnyReaches ns (roots_of (take (suc index) ds))) both
    c.loop-index.invariant.kept c.keep_root.ensures.kept in
    record {
      kept = subst (λ (n : ℕ). AddsExactly c.args.plan.now c.keep_root.new.self (AnyReaches ns (roots_of (take n ds)))) (sym (add-one index)) more;
      plan = c.keep_root.ensures.plan;
    }

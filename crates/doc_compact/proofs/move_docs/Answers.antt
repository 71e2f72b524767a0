use Rattle.std.proofs.Common.{◌≡◌, ◌∙◌, ap, sym, slice_get, Some, ℕ, List, length, arith, add-one}
use Rattle.slp_model.specs.Thin.{moved}
use Rattle.doc_book.specs.declared.Doc.{Doc}
use Rattle.doc_book.specs.Docs.{with_root}
use Rattle.doc_compact.proofs.Moving.{docs-all, docs-step, docs_first, kept-root, length-docs_first, next-doc}
use Rattle.doc_compact.proofs.move_docs.Goals as goal

pub at-root-requires : goal.at-root-requires
at-root-requires c = omega (arith, c.loop-index-test.true, c.count-index-end.ensures.count, ap length c.loop-index.invariant, length-docs_first c.args.moves.now c.loop-index.index c.args.docs.now)

pub moved_root-requires : goal.moved_root-requires
moved_root-requires c =
    let d : Doc = record { name = c.at-root.result.0.now; root = c.at-root.result.1 } in
    let at : slice_get c.args.docs.now c.loop-index.index ≡ Some d = sym (next-doc c.args.moves.now c.loop-index.index c.args.docs.now) ∙ (ap (λ (l : List Doc). slice_get l c.loop-index.index) (sym c.loop-index.invariant) ∙ c.at-root.ensures) in
    kept-root c.args.moves.now c.args.docs.now c.loop-index.index d c.requires at

pub set_root-requires : goal.set_root-requires
set_root-requires c = omega (arith, c.loop-index-test.true, c.count-index-end.ensures.count, ap length c.loop-index.invariant, length-docs_first c.args.moves.now c.loop-index.index c.args.docs.now)

pub loop-index-preserved : goal.loop-index-preserved
loop-index-preserved c =
    let keep = c.args.moves.now in
    let index = c.loop-index.index in
    let d : Doc = record { name = c.at-root.result.0.now; root = c.at-root.result.1 } in
    let at : slice_get c.args.docs.now index ≡ Some d = sym (next-doc keep index c.args.docs.now) ∙ (ap (λ (l : List Doc). slice_get l index) (sym c.loop-index.invariant) ∙ c.at-root.ensures) in
    let step : c.set_root.new.self ≡ with_root (docs_first keep index c.args.docs.now) index (moved keep d.root) = c.set_root.ensures ∙ (λ i. with_root (c.loop-index.invariant i) index (c.moved_root.ensures i)) in
    step ∙ (docs-step keep index c.args.docs.now d at ∙ ap (λ (n : ℕ). docs_first keep n c.args.docs.now) (sym (add-one index)))

pub returns : goal.returns
returns c = c.loop-index.invariant ∙ docs-all c.args.moves.now c.loop-index.index c.args.docs.now (omega (arith, c.count-index-end.ensures.count, c.loop-index-test.false))

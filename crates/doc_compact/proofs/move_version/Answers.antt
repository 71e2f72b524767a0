use Rattle.std.proofs.Common.{◌≡◌, ◌∙◌, ap, sym, slice_get, Some, ◌<◌, ℕ, Bool, List, length, arith, add-one}
use Rattle.slp_model.specs.Thin.{moved}
use Rattle.doc_book.specs.declared.Doc.{Doc}
use Rattle.doc_book.specs.Docs.{with_root}
use Rattle.doc_versions.specs.Versions.{docs_at, with_version_root}
use Rattle.name_map.specs.Named.{Named, with_value}
use Rattle.doc_compact.proofs.Moving.{docs-all, docs-step, docs_at-with_value, docs_first, docs_of, kept-root, length-docs_first, length-with_value, next-doc, with_value-own, with_value-twice}
use Rattle.doc_compact.proofs.move_version.Goals as goal

pub loop-doc-init : goal.loop-doc-init
loop-doc-init c = sym (with_value-own c.args.versions.now c.args.index)

-- the documents of the version, the first of which are moved
pub docs-now : (keep : List Bool) (vs now : Named (List Doc)) (index n : ℕ) (v : List ℕ × List Doc) → index < length vs → now ≡ with_value vs index (docs_first keep n (docs_at vs index)) → slice_get now index ≡ Some v
    → v.1 ≡ docs_first keep n (docs_at vs index)
docs-now keep vs now index n v lt is at = sym (docs_of now index v at) ∙ (ap (λ (l : Named (List Doc)). docs_at l index) is ∙ docs_at-with_value vs index (docs_first keep n (docs_at vs index)) lt)

pub at-requires-in-loop-doc : goal.at-requires-in-loop-doc
at-requires-in-loop-doc c = omega (arith, c.requires.index, ap length c.loop-doc.invariant, length-with_value c.args.versions.now c.args.index (docs_first c.args.moves.now c.loop-doc.doc (docs_at c.args.versions.now c.args.index)))

-- the index is one of the version's documents
inside : (keep : List Bool) (vs : Named (List Doc)) (index n end : ℕ) (v : List ℕ × List Doc) (ds : List Doc) → n < end → end ≡ length v.1 → slice_get vs index ≡ Some v → ds ≡ docs_first keep n (docs_at vs index) → n < length ds
inside keep vs index n end v ds lt long at is = omega (arith, lt, long, ap length (docs_of vs index v at), ap length is, length-docs_first keep n (docs_at vs index))

pub at-root-requires : goal.at-root-requires
at-root-requires c =
    let keep = c.args.moves.now in
    let vs = c.args.versions.now in
    let n = c.loop-doc.doc in
    inside keep vs c.args.index n c.count-doc-end.result (c.at.result.0.now, c.at.result.1.now) c.at-in-loop-doc.result.1.now c.loop-doc-test.true c.count-doc-end.ensures.count c.at.ensures
    (docs-now keep vs c.loop-doc.versions c.args.index n (c.at-in-loop-doc.result.0.now, c.at-in-loop-doc.result.1.now) c.requires.index c.loop-doc.invariant c.at-in-loop-doc.ensures)

-- the document at that index is unchanged
same-doc : (keep : List Bool) (vs : Named (List Doc)) (index n : ℕ) (ds : List Doc) (d : Doc) → ds ≡ docs_first keep n (docs_at vs index) → slice_get ds n ≡ Some d → slice_get (docs_at vs index) n ≡ Some d
same-doc keep vs index n ds d is at = sym (next-doc keep n (docs_at vs index)) ∙ (ap (λ (l : List Doc). slice_get l n) (sym is) ∙ at)

pub moved_root-requires : goal.moved_root-requires
moved_root-requires c =
    let keep = c.args.moves.now in
    let vs = c.args.versions.now in
    let n = c.loop-doc.doc in
    let d : Doc = record { name = c.at-root.result.0.now; root = c.at-root.result.1 } in
    let ds = docs-now keep vs c.loop-doc.versions c.args.index n (c.at-in-loop-doc.result.0.now, c.at-in-loop-doc.result.1.now) c.requires.index c.loop-doc.invariant c.at-in-loop-doc.ensures in
    kept-root keep (docs_at vs c.args.index) n d c.requires.kept (same-doc keep vs c.args.index n c.at-in-loop-doc.result.1.now d ds c.at-root.ensures)

pub set_root-requires-clause-index : goal.set_root-requires-clause-index
set_root-requires-clause-index c = omega (arith, c.requires.index, ap length c.loop-doc.invariant, length-with_value c.args.versions.now c.args.index (docs_first c.args.moves.now c.loop-doc.doc (docs_at c.args.versions.now c.args.index)))

pub set_root-requires-clause-doc : goal.set_root-requires-clause-doc
set_root-requires-clause-doc c =
    let keep = c.args.moves.now in
    let vs = c.args.versions.now in
    let n = c.loop-doc.doc in
    inside keep vs c.args.index n c.count-doc-end.result (c.at.result.0.now, c.at.result.1.now) (docs_at c.loop-doc.versions c.args.index) c.loop-doc-test.true c.count-doc-end.ensures.count c.at.ensures
    (ap (λ (l : Named (List Doc)). docs_at l c.args.index) c.loop-doc.invariant ∙ docs_at-with_value vs c.args.index (docs_first keep n (docs_at vs c.args.index)) c.requires.index)

pub loop-doc-preserved : goal.loop-doc-preserved
loop-doc-preserved c =
    let keep = c.args.moves.now in
    let vs = c.args.versions.now in
    let index = c.args.index in
    let n = c.loop-doc.doc in
    let own = docs_at vs index in
    let d : Doc = record { name = c.at-root.result.0.now; root = c.at-root.result.1 } in
    let ds = docs-now keep vs c.loop-doc.versions index n (c.at-in-loop-doc.result.0.now, c.at-in-loop-doc.result.1.now) c.requires.index c.loop-doc.invariant c.at-in-loop-doc.ensures in
    let there = same-doc keep vs index n c.at-in-loop-doc.result.1.now d ds c.at-root.ensures in
    let first : c.set_root.new.self ≡ with_version_root (with_value vs index (docs_first keep n own)) index n (moved keep d.root) = c.set_root.ensures ∙ (λ i. with_version_root (c.loop-doc.invariant i) index n (c.moved_root.ensures i)) in
    let second : with_version_root (with_value vs index (docs_first keep n own)) index n (moved keep d.root) ≡ with_value vs index (with_root (docs_first keep n own) n (moved keep d.root)) =
    ap (λ (l : List Doc). with_value (with_value vs index (docs_first keep n own)) index (with_root l n (moved keep d.root))) (docs_at-with_value vs index (docs_first keep n own) c.requires.index)
    ∙ with_value-twice vs index (docs_first keep n own) (with_root (docs_first keep n own) n (moved keep d.root)) in
    first ∙ (second ∙ (ap (λ (l : List Doc). with_value vs index l) (docs-step keep n own d there) ∙ ap (λ (k : ℕ). with_value vs index (docs_first keep k own)) (sym (add-one n))))

pub returns : goal.returns
returns c =
    let own = docs_at c.args.versions.now c.args.index in
    let long = ap length (docs_of c.args.versions.now c.args.index (c.at.result.0.now, c.at.result.1.now) c.at.ensures) in
    c.loop-doc.invariant ∙ ap (λ (l : List Doc). with_value c.args.versions.now c.args.index l) (docs-all c.args.moves.now c.loop-doc.doc own (omega (arith, long, c.count-doc-end.ensures.count, c.loop-doc-test.false)))

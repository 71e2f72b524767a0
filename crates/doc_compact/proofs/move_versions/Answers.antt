use Rattle.std.proofs.Common.{◌≡◌, ◌∙◌, ap, sym, subst, ℕ, List, length, arith, add-one}
use Rattle.doc_book.specs.declared.Doc.{Doc}
use Rattle.doc_versions.specs.Versions.{docs_at}
use Rattle.name_map.specs.Named.{Named, with_value}
use Rattle.doc_compact.specs.Compacted.{AreKeptRoots, moved_docs}
use Rattle.doc_compact.proofs.Moving.{kept-version, length-versions_first, next-version, versions-all, versions-step, versions_first}
use Rattle.doc_compact.proofs.move_versions.Goals as goal

pub move_version-requires-clause-index : goal.move_version-requires-clause-index
move_version-requires-clause-index c = omega (arith, c.loop-index-test.true, c.count-index-end.ensures, ap length c.loop-index.invariant, length-versions_first c.args.moves.now c.loop-index.index c.args.versions.now)

pub move_version-requires-clause-kept : goal.move_version-requires-clause-kept
move_version-requires-clause-kept c =
    let keep = c.args.moves.now in
    let vs = c.args.versions.now in
    let index = c.loop-index.index in
    let same : docs_at vs index ≡ docs_at c.loop-index.versions index = sym (next-version keep index vs) ∙ ap (λ (v : Named (List Doc)). docs_at v index) (sym c.loop-index.invariant) in
    subst (AreKeptRoots keep) same (kept-version keep vs index (omega (arith, c.loop-index-test.true, c.count-index-end.ensures)) c.requires)

pub loop-index-preserved : goal.loop-index-preserved
loop-index-preserved c =
    let keep = c.args.moves.now in
    let vs = c.args.versions.now in
    let index = c.loop-index.index in
    let step : c.move_version.new.versions ≡ with_value (versions_first keep index vs) index (moved_docs keep (docs_at (versions_first keep index vs) index)) =
    c.move_version.ensures ∙ ap (λ (v : Named (List Doc)). with_value v index (moved_docs keep (docs_at v index))) c.loop-index.invariant in
    step ∙ (ap (λ (ds : List Doc). with_value (versions_first keep index vs) index (moved_docs keep ds)) (next-version keep index vs)
    ∙ (versions-step keep index vs (omega (arith, c.loop-index-test.true, c.count-index-end.ensures)) ∙ ap (λ (n : ℕ). versions_first keep n vs) (sym (add-one index))))

pub returns : goal.returns
returns c = c.loop-index.invariant ∙ versions-all c.args.moves.now c.loop-index.index c.args.versions.now (omega (arith, c.count-index-end.ensures, c.loop-index-test.false))

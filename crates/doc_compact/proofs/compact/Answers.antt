use Rattle.std.proofs.Common.{◌∙◌, ◌++◌, ℕ, Bool, List, inl, inr, sym, ap, subst}
use Rattle.std.specs.Prelude.{◌↔◌}
use Rattle.slp_model.specs.Kept.{IsPlanOf, Keeps}
use Rattle.slp_model.specs.Thin.{AnyReaches, IsCompactionOf, thin}
use Rattle.doc_book.specs.declared.Doc.{Doc}
use Rattle.name_map.specs.Named.{Named}
use Rattle.doc_book.specs.Docs.{roots_of}
use Rattle.doc_versions.specs.Texts.{version_roots}
use Rattle.doc_compact.specs.Compacted.{IsCompacted, moved_docs}
use Rattle.doc_compact.proofs.Reached.{any-append}
use Rattle.doc_compact.proofs.Texts.{compacted, roots-kept, versions-kept}
use Rattle.doc_compact.proofs.compact.Goals as goal

pub move_docs-requires : goal.move_docs-requires
move_docs-requires c =
    let ns = c.args.store.now in
    let ds = c.args.docs.now in
    let vs = version_roots c.args.versions.now in
    roots-kept ns c.in_ok-thin.moves ds (λ i r. subst (λ (ks : List Bool). Keeps ks i) (sym c.in_ok-thin.ensures.moves) ((c.in_ok-plan.ensures.kept i).1 ((any-append ns (roots_of ds) vs i).1 (inl r))))

pub move_versions-requires : goal.move_versions-requires
move_versions-requires c =
    let ns = c.args.store.now in
    let ds = roots_of c.args.docs.now in
    let vs = c.args.versions.now in
    versions-kept ns c.in_ok-thin.moves vs (λ i r. subst (λ (ks : List Bool). Keeps ks i) (sym c.in_ok-thin.ensures.moves) ((c.in_ok-plan.ensures.kept i).1 ((any-append ns ds (version_roots vs) i).1 (inr r))))

pub returns-clause-compacted : goal.returns-clause-compacted
returns-clause-compacted c =
    let ns = c.args.store.now in
    let ds = c.args.docs.now in
    let vs = c.args.versions.now in
    let keep = c.in_ok-thin.moves in
    let same = c.in_ok-thin.ensures.moves in
    let plan : IsPlanOf ns keep = subst (IsPlanOf ns) (sym same) c.in_ok-plan.ensures.plan in
    let exact : (i : ℕ) → Keeps keep i ↔ AnyReaches ns (roots_of ds ++ version_roots vs) i = λ i. subst (λ (ks : List Bool). Keeps ks i ↔ AnyReaches ns (roots_of ds ++ version_roots vs) i) (sym same) (c.in_ok-plan.ensures.kept i) in
    let is = subst (λ (ks : List Bool). IsCompactionOf ns ks c.in_ok-thin.thin) (sym same) c.in_ok-thin.ensures.thin in
    let thin_is = c.in_ok-thin.ensures.store ∙ ap (thin ns) (sym same) in
    let all = compacted ns keep c.in_ok-thin.thin is ds vs plan exact thin_is in
    subst (λ (d : List Doc). IsCompacted ns ds vs keep c.in_ok-thin.thin d c.move_versions.new.versions) (sym c.move_docs.ensures)
    (subst (λ (v : Named (List Doc)). IsCompacted ns ds vs keep c.in_ok-thin.thin (moved_docs keep ds) v) (sym c.move_versions.ensures) all)

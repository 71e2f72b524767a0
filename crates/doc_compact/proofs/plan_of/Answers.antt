use Rattle.std.proofs.Common.{◌++◌, inl, inr, length, subst, List, Bool}
use Rattle.slp_model.specs.Kept.{Keeps}
use Rattle.slp_model.specs.Thin.{AnyReaches}
use Rattle.doc_book.specs.Docs.{roots_of}
use Rattle.doc_versions.specs.Texts.{version_roots}
use Rattle.doc_compact.proofs.Reached.{adds-both, any-append, none-kept}
use Rattle.doc_compact.proofs.plan_of.Goals as goal

pub returns-clause-kept : goal.returns-clause-kept
returns-clause-kept c = λ i.
    let ns = c.args.store.now in
    let ds = roots_of c.args.docs.now in
    let vs = version_roots c.args.versions.now in
    let both = adds-both c.in_ok-plan.plan c.keep_docs.new.plan c.keep_versions.new.plan (AnyReaches ns ds) (AnyReaches ns vs) (AnyReaches ns (ds ++ vs)) (any-append ns ds vs)
    c.in_ok-keep_docs.ensures.kept c.in_ok-keep_versions.ensures.kept i in (
      (λ k. elim (both.0 k) [
        | inl before ↦ absurd (none-kept i (length ns) (subst (λ (ks : List Bool). Keeps ks i) c.in_ok-plan.ensures.none before))
        | inr reached ↦ reached
      ]),
      (λ reached. both.1 (inr reached)),
    )

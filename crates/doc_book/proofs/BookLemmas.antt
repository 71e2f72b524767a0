-- Facts about the map's names and roots, as facts about the documents.
use Rattle.std.proofs.Common.{◌≡◌, ℕ, zero, suc, Bool, true, false, cond, List, [], ◌∷◌, map, slice_get, Option, Some, refl, ap, ◌∙◌}
use Rattle.std.specs.Option.{option_map}
use Rattle.slp_model.specs.declared.NodeId.{NodeId}
use Rattle.name_map.specs.Named as named
use Rattle.name_map.specs.Named.{Named}
use Rattle.doc_book.specs.declared.Doc.{Doc}
use Rattle.doc_book.specs.Docs.{is_same, doc_of, root_of, put, taken_out, with_root}
use Rattle.doc_book.specs.Named.{doc, docs_of}

abbrev pub Roots : Type 0
Roots = Named (Option NodeId)

docs-cond : (b : Bool) (ps qs : Roots) → docs_of (cond b ps qs) ≡ cond b (docs_of ps) (docs_of qs)
docs-cond true ps qs = refl
docs-cond false ps qs = refl

root-cond : (b : Bool) (d : Doc) (o : Option Doc) → option_map (λ v. v.root) (cond b (Some d) o) ≡ cond b (Some d.root) (option_map (λ v. v.root) o)
root-cond true d o = refl
root-cond false d o = refl

pub root-docs : (ps : Roots) (n : List ℕ) → root_of (docs_of ps) n ≡ named.value_of ps n
root-docs [] n = refl
root-docs (p ∷ ps) n = root-cond (is_same n p.0) (doc p) (doc_of (docs_of ps) n) ∙ ap (λ o. cond (is_same n p.0) (Some p.1) o) (root-docs ps n)

pub put-docs : (ps : Roots) (n : List ℕ) (r : Option NodeId) → docs_of (named.put ps n r) ≡ put (docs_of ps) n r
put-docs [] n r = refl
put-docs (p ∷ ps) n r = docs-cond (is_same n p.0) ((n, r) ∷ ps) (p ∷ named.put ps n r) ∙ ap (λ ds. cond (is_same n p.0) (doc (n, r) ∷ docs_of ps) (doc p ∷ ds)) (put-docs ps n r)

pub taken_out-docs : (ps : Roots) (n : List ℕ) → docs_of (named.taken_out ps n) ≡ taken_out (docs_of ps) n
taken_out-docs [] n = refl
taken_out-docs (p ∷ ps) n = docs-cond (is_same n p.0) ps (p ∷ named.taken_out ps n) ∙ ap (λ ds. cond (is_same n p.0) (docs_of ps) (doc p ∷ ds)) (taken_out-docs ps n)

pub with_root-docs : (ps : Roots) (i : ℕ) (r : Option NodeId) → docs_of (named.with_value ps i r) ≡ with_root (docs_of ps) i r
with_root-docs [] i r = refl
with_root-docs (p ∷ ps) zero r = refl
with_root-docs (p ∷ ps) (suc i) r = ap (λ ds. doc p ∷ ds) (with_root-docs ps i r)

pub get-docs : (ps : Roots) (i : ℕ) (p : List ℕ × Option NodeId) → slice_get ps i ≡ Some p → slice_get (docs_of ps) i ≡ Some (doc p)
get-docs [] i p at = absurd (cc at)
get-docs (q ∷ ps) zero p at = ap (λ o. option_map doc o) at
get-docs (q ∷ ps) (suc i) p at = get-docs ps i p at

pub names-docs : (ps : Roots) → map (λ d. d.name) (docs_of ps) ≡ map (λ p. p.0) ps
names-docs [] = refl
names-docs (p ∷ ps) = ap (λ ns. p.0 ∷ ns) (names-docs ps)

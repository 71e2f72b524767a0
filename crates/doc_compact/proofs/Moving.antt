-- Roots under their new numbers, index by index.
use Rattle.std.proofs.Common.{◌≡◌, ℕ, zero, suc, ◌<◌, ◌≤◌, Bool, List, [], ◌∷◌, length, slice_get, Option, Some, refl, ap, subst, arith}
use Rattle.std.specs.Prelude.{unwrap_or}
use Rattle.std.specs.Option.{option_map}
use Rattle.slp_model.specs.Thin.{moved}
use Rattle.doc_book.specs.declared.Doc.{Doc}
use Rattle.doc_book.specs.Docs.{with_root}
use Rattle.doc_versions.specs.Versions.{docs_at}
use Rattle.name_map.specs.Named.{Named, with_value}
use Rattle.slp_model.specs.Kept.{IsKeptRoot}
use Rattle.doc_compact.specs.Compacted.{AreKeptRoots, AreKeptVersions, moved_docs, moved_versions}

-- the documents with new numbers for the first n, and the same for versions
abbrev pub docs_first : List Bool → ℕ → List Doc → List Doc
docs_first keep zero ds = ds
docs_first keep (suc n) [] = []
docs_first keep (suc n) (d ∷ ds) = record { name = d.name; root = moved keep d.root } ∷ docs_first keep n ds

abbrev pub versions_first : List Bool → ℕ → Named (List Doc) → Named (List Doc)
versions_first keep zero vs = vs
versions_first keep (suc n) [] = []
versions_first keep (suc n) (v ∷ vs) = (v.0, moved_docs keep v.1) ∷ versions_first keep n vs

pub length-docs_first : (keep : List Bool) (n : ℕ) (ds : List Doc) → length (docs_first keep n ds) ≡ length ds
length-docs_first keep zero ds = refl
length-docs_first keep (suc n) [] = refl
length-docs_first keep (suc n) (d ∷ ds) = ap suc (length-docs_first keep n ds)

-- the document at the index is unchanged
pub next-doc : (keep : List Bool) (n : ℕ) (ds : List Doc) → slice_get (docs_first keep n ds) n ≡ slice_get ds n
next-doc keep zero ds = refl
next-doc keep (suc n) [] = refl
next-doc keep (suc n) (d ∷ ds) = next-doc keep n ds

-- and then it is moved
pub docs-step : (keep : List Bool) (n : ℕ) (ds : List Doc) (d : Doc) → slice_get ds n ≡ Some d → with_root (docs_first keep n ds) n (moved keep d.root) ≡ docs_first keep (suc n) ds
docs-step keep zero [] d at = let bad : ⊥ = cc at in absurd bad
docs-step keep zero (x ∷ ds) d at = let same : d ≡ x = cc at in ap (λ (y : Doc). let z : Doc = record { name = x.name; root = moved keep y.root } in z ∷ ds) same
docs-step keep (suc n) [] d at = let bad : ⊥ = cc at in absurd bad
docs-step keep (suc n) (x ∷ ds) d at = let z : Doc = record { name = x.name; root = moved keep x.root } in ap (λ (l : List Doc). z ∷ l) (docs-step keep n ds d at)

pub docs-all : (keep : List Bool) (n : ℕ) (ds : List Doc) → length ds ≤ n → docs_first keep n ds ≡ moved_docs keep ds
docs-all keep zero [] le = refl
docs-all keep zero (d ∷ ds) le = let bad : ⊥ = omega (arith, le) in absurd bad
docs-all keep (suc n) [] le = refl
docs-all keep (suc n) (d ∷ ds) le = let z : Doc = record { name = d.name; root = moved keep d.root } in ap (λ (l : List Doc). z ∷ l) (docs-all keep n ds (omega (arith, le)))

pub kept-root : (keep : List Bool) (ds : List Doc) (n : ℕ) (d : Doc) → AreKeptRoots keep ds → slice_get ds n ≡ Some d → IsKeptRoot keep d.root
kept-root keep [] n d h e = let bad : ⊥ = cc e in absurd bad
kept-root keep (x ∷ ds) zero d h e = let same : x ≡ d = cc e in subst (λ (y : Doc). IsKeptRoot keep y.root) same h.0
kept-root keep (x ∷ ds) (suc n) d h e = kept-root keep ds n d h.1 e

-- ---- versions
pub length-versions_first : (keep : List Bool) (n : ℕ) (vs : Named (List Doc)) → length (versions_first keep n vs) ≡ length vs
length-versions_first keep zero vs = refl
length-versions_first keep (suc n) [] = refl
length-versions_first keep (suc n) (v ∷ vs) = ap suc (length-versions_first keep n vs)

pub next-version : (keep : List Bool) (n : ℕ) (vs : Named (List Doc)) → docs_at (versions_first keep n vs) n ≡ docs_at vs n
next-version keep zero vs = refl
next-version keep (suc n) [] = refl
next-version keep (suc n) (v ∷ vs) = next-version keep n vs

pub versions-step : (keep : List Bool) (n : ℕ) (vs : Named (List Doc)) → n < length vs → with_value (versions_first keep n vs) n (moved_docs keep (docs_at vs n)) ≡ versions_first keep (suc n) vs
versions-step keep zero [] lt = let bad : ⊥ = omega (arith, lt) in absurd bad
versions-step keep zero (v ∷ vs) lt = refl
versions-step keep (suc n) [] lt = let bad : ⊥ = omega (arith, lt) in absurd bad
versions-step keep (suc n) (v ∷ vs) lt = ap (λ (l : Named (List Doc)). (v.0, moved_docs keep v.1) ∷ l) (versions-step keep n vs (omega (arith, lt)))

pub versions-all : (keep : List Bool) (n : ℕ) (vs : Named (List Doc)) → length vs ≤ n → versions_first keep n vs ≡ moved_versions keep vs
versions-all keep zero [] le = refl
versions-all keep zero (v ∷ vs) le = let bad : ⊥ = omega (arith, le) in absurd bad
versions-all keep (suc n) [] le = refl
versions-all keep (suc n) (v ∷ vs) le = ap (λ (l : Named (List Doc)). (v.0, moved_docs keep v.1) ∷ l) (versions-all keep n vs (omega (arith, le)))

pub kept-version : (keep : List Bool) (vs : Named (List Doc)) (n : ℕ) → n < length vs → AreKeptVersions keep vs → AreKeptRoots keep (docs_at vs n)
kept-version keep [] n lt h = let bad : ⊥ = omega (arith, lt) in absurd bad
kept-version keep (v ∷ vs) zero lt h = h.0
kept-version keep (v ∷ vs) (suc n) lt h = kept-version keep vs n (omega (arith, lt)) h.1

pub docs_of : (vs : Named (List Doc)) (n : ℕ) (v : List ℕ × List Doc) → slice_get vs n ≡ Some v → docs_at vs n ≡ v.1
docs_of vs n v at = ap (λ (o : Option (List ℕ × List Doc)). unwrap_or (option_map (λ w. w.1) o) []) at

-- the documents of the version at an index change once more
pub docs_at-with_value : (vs : Named (List Doc)) (n : ℕ) (ds : List Doc) → n < length vs → docs_at (with_value vs n ds) n ≡ ds
docs_at-with_value [] n ds lt = let bad : ⊥ = omega (arith, lt) in absurd bad
docs_at-with_value (v ∷ vs) zero ds lt = refl
docs_at-with_value (v ∷ vs) (suc n) ds lt = docs_at-with_value vs n ds (omega (arith, lt))

pub with_value-twice : (vs : Named (List Doc)) (n : ℕ) (ds es : List Doc) → with_value (with_value vs n ds) n es ≡ with_value vs n es
with_value-twice [] n ds es = refl
with_value-twice (v ∷ vs) zero ds es = refl
with_value-twice (v ∷ vs) (suc n) ds es = ap (λ (l : Named (List Doc)). v ∷ l) (with_value-twice vs n ds es)

pub with_value-own : (vs : Named (List Doc)) (n : ℕ) → with_value vs n (docs_at vs n) ≡ vs
with_value-own [] n = refl
with_value-own (v ∷ vs) zero = refl
with_value-own (v ∷ vs) (suc n) = ap (λ (l : Named (List Doc)). v ∷ l) (with_value-own vs n)

pub length-with_value : (vs : Named (List Doc)) (n : ℕ) (ds : List Doc) → length (with_value vs n ds) ≡ length vs
length-with_value [] n ds = refl
length-with_value (v ∷ vs) zero ds = refl
length-with_value (v ∷ vs) (suc n) ds = ap suc (length-with_value vs n ds)

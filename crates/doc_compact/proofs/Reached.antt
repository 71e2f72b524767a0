-- The nodes that the first documents, and the first versions, reach.
use Rattle.std.proofs.Common.{◌≡◌, ℕ, zero, suc, ◌⊎◌, inl, inr, Bool, false, List, [], ◌∷◌, ◌++◌, take, slice_get, Option, Some, subst}
use Rattle.std.specs.Prelude.{◌↔◌, replicate}
use Rattle.slp_model.specs.declared.NodeId.{NodeId}
use Rattle.slp_model.specs.declared.Node.{Node}
use Rattle.slp_model.specs.Kept.{AddsExactly, Keeps, RootReaches}
use Rattle.slp_model.specs.Thin.{AnyReaches}
use Rattle.doc_book.specs.declared.Doc.{Doc}
use Rattle.doc_book.specs.Texts.{AreLive}
use Rattle.name_map.specs.Named.{Named}
use Rattle.doc_book.specs.Docs.{roots_of}
use Rattle.doc_versions.specs.Texts.{AreKept, version_roots}

-- at first nothing is kept
pub none-kept : (i n : ℕ) → Keeps (replicate n false) i → ⊥
none-kept i zero h = cc
none-kept zero (suc n) h = cc
none-kept (suc i) (suc n) h = none-kept i n h

-- one addition after the other
pub adds-both : (xs ys zs : List Bool) (P Q R : ℕ → Type 0) → ((j : ℕ) → R j ↔ (P j ⊎ Q j)) → AddsExactly xs ys P → AddsExactly ys zs Q → AddsExactly xs zs R
adds-both xs ys zs P Q R both first second = λ j. (to j, from j)
  where
    to : (j : ℕ) → Keeps zs j → Keeps xs j ⊎ R j
    to j k = elim ((second j).0 k) [
      | inl at ↦ elim ((first j).0 at) [ inl before ↦ inl before | inr p ↦ inr ((both j).1 (inl p)) ]
      | inr q ↦ inr ((both j).1 (inr q))
    ]

    from : (j : ℕ) → Keeps xs j ⊎ R j → Keeps zs j
    from j (inl before) = (second j).1 (inl ((first j).1 (inl before)))
    from j (inr r) = elim ((both j).0 r) [ inl p ↦ (second j).1 (inl ((first j).1 (inr p))) | inr q ↦ (second j).1 (inr q) ]

any-left : (ns : List Node) (xs ys : List (Option NodeId)) (j : ℕ) → AnyReaches ns xs j → AnyReaches ns (xs ++ ys) j
any-left ns [] ys j h = absurd h
any-left ns (x ∷ xs) ys j (inl h) = inl h
any-left ns (x ∷ xs) ys j (inr h) = inr (any-left ns xs ys j h)

any-right : (ns : List Node) (xs ys : List (Option NodeId)) (j : ℕ) → AnyReaches ns ys j → AnyReaches ns (xs ++ ys) j
any-right ns [] ys j h = h
any-right ns (x ∷ xs) ys j h = inr (any-right ns xs ys j h)

any-cut : (ns : List Node) (xs ys : List (Option NodeId)) (j : ℕ) → AnyReaches ns (xs ++ ys) j → AnyReaches ns xs j ⊎ AnyReaches ns ys j
any-cut ns [] ys j h = inr h
any-cut ns (x ∷ xs) ys j (inl h) = inl (inl h)
any-cut ns (x ∷ xs) ys j (inr h) = elim (any-cut ns xs ys j h) [ inl left ↦ inl (inr left) | inr right ↦ inr right ]

-- two lists of roots together
pub any-append : (ns : List Node) (xs ys : List (Option NodeId)) (j : ℕ) → AnyReaches ns (xs ++ ys) j ↔ (AnyReaches ns xs j ⊎ AnyReaches ns ys j)
any-append ns xs ys j = (any-cut ns xs ys j, (λ s. elim s [ inl h ↦ any-left ns xs ys j h | inr h ↦ any-right ns xs ys j h ]))

-- the first documents and the next one
pub any-next : (ns : List Node) (ds : List Doc) (index : ℕ) (d : Doc) → slice_get ds index ≡ Some d → (j : ℕ)
    → AnyReaches ns (roots_of (take (suc index) ds)) j ↔ (AnyReaches ns (roots_of (take index ds)) j ⊎ RootReaches ns d.root j)
any-next ns [] index d at j = let bad : ⊥ = cc at in absurd bad
any-next ns (x ∷ ds) zero d at j =
    let same : x ≡ d = cc at in
    subst (λ (y : Doc). AnyReaches ns (x.root ∷ []) j ↔ (⊥ ⊎ RootReaches ns y.root j)) same
    ((λ s. elim s [ inl h ↦ inr h | inr bad ↦ absurd bad ]), (λ s. elim s [ inl bad ↦ absurd bad | inr h ↦ inl h ]))
any-next ns (x ∷ ds) (suc index) d at j =
    let rest = any-next ns ds index d at j in (
      (λ s. elim s [ inl h ↦ inl (inl h) | inr h ↦ elim (rest.0 h) [ inl before ↦ inl (inr before) | inr here ↦ inr here ] ]),
      (λ s. elim s [ inl first ↦ elim first [ inl h ↦ inl h | inr before ↦ inr (rest.1 (inl before)) ] | inr here ↦ inr (rest.1 (inr here)) ]),
    )

-- the first versions and the next one
pub any-next_version : (ns : List Node) (vs : Named (List Doc)) (index : ℕ) (v : List ℕ × List Doc) → slice_get vs index ≡ Some v → (j : ℕ)
    → AnyReaches ns (version_roots (take (suc index) vs)) j ↔ (AnyReaches ns (version_roots (take index vs)) j ⊎ AnyReaches ns (roots_of v.1) j)
any-next_version ns [] index v at j = let bad : ⊥ = cc at in absurd bad
any-next_version ns (x ∷ vs) zero v at j =
    let same : x ≡ v = cc at in
    let both = any-append ns (roots_of x.1) [] j in
    subst (λ (y : List ℕ × List Doc). AnyReaches ns (roots_of x.1 ++ []) j ↔ (⊥ ⊎ AnyReaches ns (roots_of y.1) j)) same
    ((λ h. elim (both.0 h) [ inl here ↦ inr here | inr bad ↦ absurd bad ]), (λ s. elim s [ inl bad ↦ absurd bad | inr h ↦ both.1 (inl h) ]))
any-next_version ns (x ∷ vs) (suc index) v at j =
    let rest = any-next_version ns vs index v at j in
    let more = any-append ns (roots_of x.1) (version_roots (take (suc index) vs)) j in
    let less = any-append ns (roots_of x.1) (version_roots (take index vs)) j in (
      (λ h. elim (more.0 h) [ inl own ↦ inl (less.1 (inl own)) | inr late ↦ elim (rest.0 late) [ inl before ↦ inl (less.1 (inr before)) | inr here ↦ inr here ] ]),
      (λ s. elim s [ inl first ↦ elim (less.0 first) [ inl own ↦ more.1 (inl own) | inr before ↦ more.1 (inr (rest.1 (inl before))) ] | inr here ↦ more.1 (inr (rest.1 (inr here))) ]),
    )

pub kept-at : (ns : List Node) (vs : Named (List Doc)) (index : ℕ) (v : List ℕ × List Doc) → AreKept ns vs → slice_get vs index ≡ Some v → AreLive ns v.1
kept-at ns [] index v h e = let bad : ⊥ = cc e in absurd bad
kept-at ns (x ∷ vs) zero v h e = let same : x ≡ v = cc e in subst (λ (y : List ℕ × List Doc). AreLive ns y.1) same h.0
kept-at ns (x ∷ vs) (suc index) v h e = kept-at ns vs index v h.1 e

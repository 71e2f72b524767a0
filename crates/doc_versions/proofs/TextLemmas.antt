-- Versions in a store, and the plain documents that they represent.
use Rattle.std.proofs.Common.{[], Bool, cond, false, List, option_map, refl, Some, subst, true, ℕ, ◌∷◌, ◌≡◌}
use Rattle.doc_book.proofs.TextLemmas.{AreLive-grows, plain-grows}
use Rattle.doc_book.specs.Texts.{AreLive, plain}
use Rattle.doc_book.specs.declared.Doc.{Doc}
use Rattle.doc_versions.specs.Texts.{AreKept, plain_versions}
use Rattle.name_map.specs.Named.{is_same, Named, put, taken_out, value_of}
use Rattle.slp_model.specs.Nodes.{Grows}
use Rattle.slp_model.specs.declared.Node.{Node}

pub AreKept-grows : (old new : List Node) (p q : ℕ) → Grows old new p q → (vs : Named (List Doc)) → AreKept old vs → AreKept new vs
AreKept-grows old new p q g [] h = tt
AreKept-grows old new p q g (v ∷ vs) h = (AreLive-grows old new p q g v.1 h.0, AreKept-grows old new p q g vs h.1)

-- old texts are unchanged when the store gets nodes
pub plain_versions-grows : (old new : List Node) (p q : ℕ) → Grows old new p q → (vs : Named (List Doc)) → AreKept old vs → plain_versions new vs ≡ plain_versions old vs
plain_versions-grows old new p q g [] h = refl
plain_versions-grows old new p q g (v ∷ vs) h =
    let first = plain-grows old new p q g v.1 h.0 in
    let rest = plain_versions-grows old new p q g vs h.1 in
    λ i. (v.0, first i) ∷ rest i

pub AreKept-put : (ns : List Node) (vs : Named (List Doc)) (name : List ℕ) (ds : List Doc) → AreKept ns vs → AreLive ns ds → AreKept ns (put vs name ds)
AreKept-put ns [] name ds h live = (live, tt)
AreKept-put ns (v ∷ vs) name ds h live =
    elim (is_same name v.0) as (λ b. AreKept ns (cond b ((name, ds) ∷ vs) (v ∷ put vs name ds)))
    [ true ↦ (live, h.1) | false ↦ (h.0, AreKept-put ns vs name ds h.1 live) ]

pub plain_versions-put : (ns : List Node) (vs : Named (List Doc)) (name : List ℕ) (ds : List Doc) → plain_versions ns (put vs name ds) ≡ put (plain_versions ns vs) name (plain ns ds)
plain_versions-put ns [] name ds = refl
plain_versions-put ns (v ∷ vs) name ds =
    elim (is_same name v.0) as (λ b. plain_versions ns (cond b ((name, ds) ∷ vs) (v ∷ put vs name ds)) ≡ cond b ((name, plain ns ds) ∷ plain_versions ns vs) ((v.0, plain ns v.1) ∷ put (plain_versions ns vs) name (plain ns ds)))
    [ true ↦ refl | false ↦ (λ j. (v.0, plain ns v.1) ∷ plain_versions-put ns vs name ds j) ]

pub AreKept-taken_out : (ns : List Node) (vs : Named (List Doc)) (name : List ℕ) → AreKept ns vs → AreKept ns (taken_out vs name)
AreKept-taken_out ns [] name h = tt
AreKept-taken_out ns (v ∷ vs) name h =
    elim (is_same name v.0) as (λ b. AreKept ns (cond b vs (v ∷ taken_out vs name)))
    [ true ↦ h.1 | false ↦ (h.0, AreKept-taken_out ns vs name h.1) ]

pub plain_versions-taken_out : (ns : List Node) (vs : Named (List Doc)) (name : List ℕ) → plain_versions ns (taken_out vs name) ≡ taken_out (plain_versions ns vs) name
plain_versions-taken_out ns [] name = refl
plain_versions-taken_out ns (v ∷ vs) name =
    elim (is_same name v.0) as (λ b. plain_versions ns (cond b vs (v ∷ taken_out vs name)) ≡ cond b (plain_versions ns vs) ((v.0, plain ns v.1) ∷ taken_out (plain_versions ns vs) name))
    [ true ↦ refl | false ↦ (λ j. (v.0, plain ns v.1) ∷ plain_versions-taken_out ns vs name j) ]

-- the documents of a version
pub version_of-plain : (ns : List Node) (vs : Named (List Doc)) (name : List ℕ) → value_of (plain_versions ns vs) name ≡ option_map (plain ns) (value_of vs name)
version_of-plain ns [] name = refl
version_of-plain ns (v ∷ vs) name =
    elim (is_same name v.0) as (λ b. cond b (Some (plain ns v.1)) (value_of (plain_versions ns vs) name) ≡ option_map (plain ns) (cond b (Some v.1) (value_of vs name)))
    [ true ↦ refl | false ↦ version_of-plain ns vs name ]

pub version_kept : (ns : List Node) (vs : Named (List Doc)) (name : List ℕ) (ds : List Doc) → AreKept ns vs → value_of vs name ≡ Some ds → AreLive ns ds
version_kept ns [] name ds h e = let bad : ⊥ = cc e in absurd bad
version_kept ns (v ∷ vs) name ds h e = at (is_same name v.0) (λ f. version_kept ns vs name ds h.1 f) e
  where
    at : (b : Bool) → (value_of vs name ≡ Some ds → AreLive ns ds) → cond b (Some v.1) (value_of vs name) ≡ Some ds → AreLive ns ds
    at true rest f = let same : v.1 ≡ ds = cc f in subst (AreLive ns) same h.0
    at false rest f = rest f

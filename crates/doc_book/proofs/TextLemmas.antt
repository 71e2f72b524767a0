-- Live roots, and the texts of documents, in a store.
use Rattle.std.proofs.Common.{◌≡◌, ℕ, zero, suc, Bool, true, false, cond, List, [], ◌∷◌, slice_get, Option, Some, None, Ok, Err, ok_or, option_map, refl, ap, ◌∙◌, subst, arith}
use Rattle.name_map.specs.Named.{is_same, put, taken_out, value_of}
use Rattle.slp_model.specs.declared.NodeId.{NodeId}
use Rattle.slp_model.specs.declared.Node.{Node}
use Rattle.slp_model.specs.Tree.{root_text}
use Rattle.slp_model.specs.Nodes.{Grows, IsLive, text_of}
use Rattle.slp_model.proofs.NodesLemmas.{root_tree-grows, Grows-length}
use Rattle.doc_book.specs.declared.Doc.{Doc}
use Rattle.doc_book.specs.declared.Missing.{Missing}
use Rattle.doc_book.specs.Docs as book
use Rattle.doc_book.specs.Texts.{AreLive, plain}

pub live-at : (ns : List Node) (ds : List Doc) (index : ℕ) (d : Doc) → AreLive ns ds → slice_get ds index ≡ Some d → IsLive ns d.root
live-at ns [] index d h e = let bad : ⊥ = cc e in absurd bad
live-at ns (x ∷ ds) zero d h e = let same : x ≡ d = cc e in subst (λ (y : Doc). IsLive ns y.root) same h.0
live-at ns (x ∷ ds) (suc index) d h e = live-at ns ds index d h.1 e

pub AreLive-put : (ns : List Node) (ds : List Doc) (name : List ℕ) (root : Option NodeId) → AreLive ns ds → IsLive ns root → AreLive ns (book.put ds name root)
AreLive-put ns [] name root h live = (live, tt)
AreLive-put ns (d ∷ ds) name root h live =
    elim (is_same name d.name) as (λ b. AreLive ns (cond b (record { name = name; root = root } ∷ ds) (d ∷ book.put ds name root)))
    [ true ↦ (live, h.1) | false ↦ (h.0, AreLive-put ns ds name root h.1 live) ]

IsLive-grows : (old new : List Node) (p q : ℕ) → Grows old new p q → (r : Option NodeId) → IsLive old r → IsLive new r
IsLive-grows old new p q g None h = tt
IsLive-grows old new p q g (Some id) h = omega (arith, h, Grows-length old new p q g)

pub text_of-grows : (old new : List Node) (p q : ℕ) → Grows old new p q → (r : Option NodeId) → IsLive old r → text_of new r ≡ text_of old r
text_of-grows old new p q g r h = ap root_text (root_tree-grows old new p q g r h)

pub AreLive-grows : (old new : List Node) (p q : ℕ) → Grows old new p q → (ds : List Doc) → AreLive old ds → AreLive new ds
AreLive-grows old new p q g [] h = tt
AreLive-grows old new p q g (d ∷ ds) h = (IsLive-grows old new p q g d.root h.0, AreLive-grows old new p q g ds h.1)

pub plain-grows : (old new : List Node) (p q : ℕ) → Grows old new p q → (ds : List Doc) → AreLive old ds → plain new ds ≡ plain old ds
plain-grows old new p q g [] h = refl
plain-grows old new p q g (d ∷ ds) h = λ j. (d.name, text_of-grows old new p q g d.root h.0 j) ∷ plain-grows old new p q g ds h.1 j

-- ---- documents that get a text or are removed
pub plain-put : (ns : List Node) (ds : List Doc) (name : List ℕ) (root : Option NodeId) → plain ns (book.put ds name root) ≡ put (plain ns ds) name (text_of ns root)
plain-put ns [] name root = refl
plain-put ns (d ∷ ds) name root =
    elim (is_same name d.name) as (λ b. plain ns (cond b (record { name = name; root = root } ∷ ds) (d ∷ book.put ds name root)) ≡ cond b ((name, text_of ns root) ∷ plain ns ds) ((d.name, text_of ns d.root) ∷ put (plain ns ds) name (text_of ns root)))
    [ true ↦ refl | false ↦ (λ j. (d.name, text_of ns d.root) ∷ plain-put ns ds name root j) ]

pub AreLive-taken_out : (ns : List Node) (ds : List Doc) (name : List ℕ) → AreLive ns ds → AreLive ns (book.taken_out ds name)
AreLive-taken_out ns [] name h = tt
AreLive-taken_out ns (d ∷ ds) name h =
    elim (is_same name d.name) as (λ b. AreLive ns (cond b ds (d ∷ book.taken_out ds name)))
    [ true ↦ h.1 | false ↦ (h.0, AreLive-taken_out ns ds name h.1) ]

pub plain-taken_out : (ns : List Node) (ds : List Doc) (name : List ℕ) → plain ns (book.taken_out ds name) ≡ taken_out (plain ns ds) name
plain-taken_out ns [] name = refl
plain-taken_out ns (d ∷ ds) name =
    elim (is_same name d.name) as (λ b. plain ns (cond b ds (d ∷ book.taken_out ds name)) ≡ cond b (plain ns ds) ((d.name, text_of ns d.root) ∷ taken_out (plain ns ds) name))
    [ true ↦ refl | false ↦ (λ j. (d.name, text_of ns d.root) ∷ plain-taken_out ns ds name j) ]

-- ---- the document with a name
pub value_of-plain : (ns : List Node) (ds : List Doc) (name : List ℕ) → value_of (plain ns ds) name ≡ option_map (text_of ns) (book.root_of ds name)
value_of-plain ns [] name = refl
value_of-plain ns (d ∷ ds) name =
    elim (is_same name d.name) as (λ b. cond b (Some (text_of ns d.root)) (value_of (plain ns ds) name) ≡ option_map (text_of ns) (option_map (λ (e : Doc). e.root) (cond b (Some d) (book.doc_of ds name))))
    [ true ↦ refl | false ↦ value_of-plain ns ds name ]

-- the text of a document in a store
pub document_is : (ns : List Node) (ds : List Doc) (name : List ℕ) (root : Option NodeId) → book.root_of ds name ≡ Some root → value_of (plain ns ds) name ≡ Some (text_of ns root)
document_is ns ds name root there = value_of-plain ns ds name ∙ ap (option_map (text_of ns)) there

pub document_lacks : (ns : List Node) (ds : List Doc) (name : List ℕ) → book.root_of ds name ≡ None → value_of (plain ns ds) name ≡ None
document_lacks ns ds name missing = value_of-plain ns ds name ∙ ap (option_map (text_of ns)) missing

pub live_root : (ns : List Node) (ds : List Doc) (name : List ℕ) (root : Option NodeId) → AreLive ns ds → book.root_of ds name ≡ Some root → IsLive ns root
live_root ns [] name root h e = let bad : ⊥ = cc e in absurd bad
live_root ns (d ∷ ds) name root h e = at (is_same name d.name) (λ f. live_root ns ds name root h.1 f) e
  where
    at : (b : Bool) → (book.root_of ds name ≡ Some root → IsLive ns root) → option_map (λ (x : Doc). x.root) (cond b (Some d) (book.doc_of ds name)) ≡ Some root → IsLive ns root
    at true rest f = let same : d.root ≡ root = cc f in subst (IsLive ns) same h.0
    at false rest f = rest f

-- ---- the result of a search for a document
pub some_of_ok : (o : Option (Option NodeId)) (r : Option NodeId) (e : Missing) → Ok r ≡ ok_or o e → o ≡ Some r
some_of_ok None r e p = let bad : ⊥ = cc p in absurd bad
some_of_ok (Some x) r e p = cc p

pub none_of_err : (o : Option (Option NodeId)) (f e : Missing) → Err f ≡ ok_or o e → o ≡ None
none_of_err None f e p = refl
none_of_err (Some x) f e p = let bad : ⊥ = cc p in absurd bad

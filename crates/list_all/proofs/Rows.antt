-- Lists of pages and of roots.
use Rattle.std.proofs.Common.{◌≡◌, ℕ, zero, suc, ◌+◌, ◌≤◌, inl, inr, refl, sym, ap, subst, ◌∙◌, arith, List, [], ◌∷◌, ◌++◌, length, Option, Some, All}
use Rattle.std.specs.Prelude.{slice_get}
use Rattle.std.specs.List.{AllByRecursion}
use Rattle.std.proofs.lemmas.Option.{slice_get-get_or, slice_get_cases}
use Rattle.slp_model.specs.declared.Node.{Node}
use Rattle.slp_model.specs.declared.NodeId.{NodeId}
use Rattle.slp_model.specs.Nodes.{IsLive, text_of}
use Rattle.marker_dfa.specs.Deterministic.{DeterministicAutomaton}
use Rattle.doc_book.specs.declared.Doc.{Doc}
use Rattle.list_all.specs.Page.{Page, IsPageOf}
use Rattle.list_all.specs.Pages.{AreEach, ArePages, AreRoots}

-- ---- elements by index
some-is : {X : Type 0} (x y : X) → Some x ≡ Some y → x ≡ y
some-is x y e = cc e

-- ---- roots
live-at : (nodes : List Node) (docs : List Doc) (i : ℕ) (d : Doc) → AllByRecursion (λ x. IsLive nodes x.root) docs → slice_get docs i ≡ Some d → IsLive nodes d.root
live-at nodes [] i d h e = let bad : ⊥ = cc e in absurd bad
live-at nodes (x ∷ xs) zero d h e = subst (λ (y : Doc). IsLive nodes y.root) (some-is x d e) h.0
live-at nodes (x ∷ xs) (suc i) d h e = live-at nodes xs i d h.1 e

pub roots-live : (nodes : List Node) (docs : List Doc) (first count : ℕ) (roots : List (Option NodeId)) → AllByRecursion (λ d. IsLive nodes d.root) docs → first + count ≤ length docs → AreRoots docs first count roots → All (IsLive nodes) roots
roots-live nodes docs first count roots live within h k d lt =
    let at = slice_get-get_or roots k d lt in
    elim (slice_get_cases docs (first + k)).1 [
      | inl doc ↦ subst (IsLive nodes) (sym (h.each k doc.0 _ doc.2 at)) (live-at nodes docs (first + k) doc.0 live doc.2)
      | inr past ↦ absurd (omega (arith, past.0, within, lt, h.count_is))
    ]

-- ---- pages
module _ (P : Option NodeId → Page → Type 0) where
  each-append : (rs : List (Option NodeId)) (ps : List Page) (ss : List (Option NodeId)) (qs : List Page) → AreEach P rs ps → AreEach P ss qs → AreEach P (rs ++ ss) (ps ++ qs)
  each-append [] [] ss qs h k = k
  each-append [] (p ∷ ps) ss qs h k = absurd h
  each-append (r ∷ rs) [] ss qs h k = absurd h
  each-append (r ∷ rs) (p ∷ ps) ss qs h k = (h.0, each-append rs ps ss qs h.1 k)

  pub each-joined : (rs ss roots : List (Option NodeId)) (ps qs pages : List Page) → AreEach P rs ps → AreEach P ss qs → roots ≡ rs ++ ss → pages ≡ ps ++ qs → AreEach P roots pages
  each-joined rs ss roots ps qs pages h k e is = rw (e, is) (each-append rs ps ss qs h k)

  pub each-push : (rs : List (Option NodeId)) (ps : List Page) (r : Option NodeId) (p : Page) → AreEach P rs ps → P r p → AreEach P (rs ++ r ∷ []) (ps ++ p ∷ [])
  each-push rs ps r p h is = each-append rs ps (r ∷ []) (p ∷ []) h (is, tt)

  each-length : (rs : List (Option NodeId)) (ps : List Page) → AreEach P rs ps → length ps ≡ length rs
  each-length [] [] h = refl
  each-length [] (p ∷ ps) h = absurd h
  each-length (r ∷ rs) [] h = absurd h
  each-length (r ∷ rs) (p ∷ ps) h = ap suc (each-length rs ps h.1)

  each-get : (rs : List (Option NodeId)) (ps : List Page) (i : ℕ) (p : Page) → AreEach P rs ps → slice_get ps i ≡ Some p → (r : Option NodeId) × (slice_get rs i ≡ Some r) × P r p
  each-get [] [] i p h e = let bad : ⊥ = cc e in absurd bad
  each-get [] (q ∷ ps) i p h e = absurd h
  each-get (r ∷ rs) [] i p h e = absurd h
  each-get (r ∷ rs) (q ∷ ps) zero p h e = (r, refl, subst (P r) (some-is q p e) h.0)
  each-get (r ∷ rs) (q ∷ ps) (suc i) p h e = each-get rs ps i p h.1 e

pub pages-every : (a : DeterministicAutomaton) (nodes : List Node) (n : ℕ) (docs : List Doc) (first count : ℕ) (roots : List (Option NodeId)) (ps : List Page) → AreRoots docs first count roots → AreEach (λ r p. IsPageOf a (text_of nodes r) n p) roots ps → ArePages a nodes docs first count n ps
pages-every a nodes n docs first count roots ps are h = record {
  count_is = each-length (λ r p. IsPageOf a (text_of nodes r) n p) roots ps h ∙ are.count_is;
  each = λ i d p ed ep.
      let k = each-get (λ r q. IsPageOf a (text_of nodes r) n q) roots ps i p h ep in
      subst (λ (r : Option NodeId). IsPageOf a (text_of nodes r) n p) (are.each i d k.0 ed k.1) k.2;
}

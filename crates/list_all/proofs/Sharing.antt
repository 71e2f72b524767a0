-- Pages that several documents share.
use Rattle.std.proofs.Common.{◌≡◌, ℕ, zero, suc, ◌+◌, ◌<◌, refl, sym, subst, arith, List, [], ◌∷◌, ◌++◌, map, length, get_or, Option, Some, All}
use Rattle.std.specs.Prelude.{slice_get}
use Rattle.std.proofs.lemmas.Option.{slice_get_within, get_or_from_slice_get}
use Rattle.slp_model.specs.declared.NodeId.{NodeId}
use Rattle.list_all.specs.Page.{Page}
use Rattle.list_all.specs.Pages.{AreEach}
use Rattle.list_all.specs.Places.{no_page, pages_at, HasPage, HaveEach}

-- ---- elements by index
pub get-prefix : {X : Type 0} (xs ys : List X) (k : ℕ) (x : X) → slice_get xs k ≡ Some x → slice_get (xs ++ ys) k ≡ Some x
get-prefix [] ys k x h = cc
get-prefix (y ∷ xs) ys zero x h = h
get-prefix (y ∷ xs) ys (suc k) x h = get-prefix xs ys k x h

get-back : {X : Type 0} (xs ys : List X) (k : ℕ) (x : X) → slice_get ys k ≡ Some x → slice_get (xs ++ ys) (length xs + k) ≡ Some x
get-back [] ys k x h = let e : 0 + k ≡ k = omega arith in rw e h
get-back (y ∷ xs) ys k x h = let e : length (y ∷ xs) + k ≡ suc (length xs + k) = omega arith in rw e (get-back xs ys k x h)

module _ (P : Option NodeId → Page → Type 0) where
  pub page-at : (rs : List (Option NodeId)) (ps : List Page) (k : ℕ) (r : Option NodeId) → AreEach P rs ps → slice_get rs k ≡ Some r → HasPage P ps r k
  page-at [] ps k r h e = let bad : ⊥ = cc e in absurd bad
  page-at (q ∷ rs) [] k r h e = absurd h
  page-at (q ∷ rs) (p ∷ ps) zero r h e = let same : q ≡ r = cc e in (p, refl, subst (λ x. P x p) same h.0)
  page-at (q ∷ rs) (p ∷ ps) (suc k) r h e = let rest = page-at rs ps k r h.1 e in (rest.0, rest.1, rest.2)

  -- ---- one more page is found
  module _ (found more : List Page) (kept : (k : ℕ) (p : Page) → slice_get found k ≡ Some p → slice_get more k ≡ Some p) where
    have-kept : (rs : List (Option NodeId)) (ks : List ℕ) → HaveEach P found rs ks → HaveEach P more rs ks
    have-kept [] [] h = h
    have-kept [] (k ∷ ks) h = absurd h
    have-kept (r ∷ rs) [] h = absurd h
    have-kept (r ∷ rs) (k ∷ ks) h = ((h.0.0, kept k h.0.0 h.0.1, h.0.2), have-kept rs ks h.1)

  have-append : (found : List Page) (rs : List (Option NodeId)) (ks : List ℕ) (ss : List (Option NodeId)) (ls : List ℕ) → HaveEach P found rs ks → HaveEach P found ss ls → HaveEach P found (rs ++ ss) (ks ++ ls)
  have-append found [] [] ss ls h k = k
  have-append found [] (l ∷ ks) ss ls h k = absurd h
  have-append found (r ∷ rs) [] ss ls h k = absurd h
  have-append found (r ∷ rs) (l ∷ ks) ss ls h k = (h.0, have-append found rs ks ss ls h.1 k)

  pub have-push : (found more : List Page) → ((k : ℕ) (p : Page) → slice_get found k ≡ Some p → slice_get more k ≡ Some p) → (rs : List (Option NodeId)) (ks : List ℕ) (r : Option NodeId) (k : ℕ)
      → HaveEach P found rs ks → HasPage P more r k → HaveEach P more (rs ++ r ∷ []) (ks ++ k ∷ [])
  have-push found more kept rs ks r k h is = have-append more rs ks (r ∷ []) (k ∷ []) (have-kept found more kept rs ks h) (is, tt)

  have-moved : (before found : List Page) (rs : List (Option NodeId)) (ks : List ℕ) → HaveEach P found rs ks → HaveEach P (before ++ found) rs (map (λ k. length before + k) ks)
  have-moved before found [] [] h = h
  have-moved before found [] (k ∷ ks) h = absurd h
  have-moved before found (r ∷ rs) [] h = absurd h
  have-moved before found (r ∷ rs) (k ∷ ks) h = ((h.0.0, get-back before found k h.0.0 h.0.1, h.0.2), have-moved before found rs ks h.1)

  pub have-joined : (a b found : List Page) (rs ss roots : List (Option NodeId)) (ks ls places : List ℕ) → HaveEach P a rs ks → HaveEach P b ss ls
      → roots ≡ rs ++ ss → found ≡ a ++ b → places ≡ ks ++ map (λ k. length a + k) ls → HaveEach P found roots places
  have-joined a b found rs ss roots ks ls places h k is joined at =
      rw (is, joined, at) (have-append (a ++ b) rs ks ss (map (λ k. length a + k) ls) (have-kept a (a ++ b) (λ i p e. get-prefix a b i p e) rs ks h) (have-moved a b ss ls k))

  -- ---- the list of the pages
  within-at : (found : List Page) (rs : List (Option NodeId)) (ks : List ℕ) (i d : ℕ) → HaveEach P found rs ks → i < length ks → get_or ks i d < length found
  within-at found rs [] i d h lt = absurd (omega arith)
  within-at found [] (k ∷ ks) i d h lt = absurd h
  within-at found (r ∷ rs) (k ∷ ks) zero d h lt = slice_get_within found k h.0.0 h.0.1
  within-at found (r ∷ rs) (k ∷ ks) (suc i) d h lt = within-at found rs ks i d h.1 (omega arith)

  pub have-within : (found : List Page) (rs : List (Option NodeId)) (ks : List ℕ) → HaveEach P found rs ks → All (λ k. k < length found) ks
  have-within found rs ks h = λ i d lt. within-at found rs ks i d h lt

  pub have-pages : (found : List Page) (rs : List (Option NodeId)) (ks : List ℕ) → HaveEach P found rs ks → AreEach P rs (pages_at found ks)
  have-pages found [] [] h = h
  have-pages found [] (k ∷ ks) h = absurd h
  have-pages found (r ∷ rs) [] h = absurd h
  have-pages found (r ∷ rs) (k ∷ ks) h = (subst (P r) (sym (get_or_from_slice_get found k h.0.0 no_page h.0.1)) h.0.2, have-pages found rs ks h.1)

-- The documents of an image, read one after the other.
use Rattle.std.proofs.Common.{◌≡◌, ℕ, zero, suc, false, cond, List, [], ◌∷◌, map, take, slice_get, Some, sym, ap, subst, ◌∙◌}
use Rattle.std.specs.Prelude.{unwrap_or}
use Rattle.std.specs.List.{AllByRecursion}
use Rattle.std.proofs.lemmas.Bool.Decides.{Decides-like, same_from_decides}
use Rattle.std.proofs.lemmas.Slice.Eq.{bytes_eq-Decides}
use Rattle.std.proofs.lemmas.Map.Keys.{IsDistinct-head, IsDistinct-tail}
use Rattle.doc_book.specs.declared.Doc.{Doc}
use Rattle.doc_book.specs.Docs.{is_same, put, AreDistinctNames}

some_is : {X : Type 0} {x y : X} → Some x ≡ Some y → x ≡ y
some_is {X} {x} p = ap (λ o. unwrap_or o x) p

-- a name that comes later is another
later-other : (n : List ℕ) (ds : List Doc) (i : ℕ) (d : Doc) → AllByRecursion (λ m. is_same n m ≡ false) (map (λ v. v.name) ds) → slice_get ds i ≡ Some d → is_same n d.name ≡ false
later-other n [] i d a at = cc
later-other n (x ∷ xs) zero d a at = subst (λ v. is_same n v.name ≡ false) (some_is at) a.0
later-other n (x ∷ xs) (suc i) d a at = later-other n xs i d a.1 at

flipped : (n m : List ℕ) → is_same n m ≡ false → is_same m n ≡ false
flipped n m e = same_from_decides (is_same m n) (is_same n m) (Decides-like (is_same m n) (λ p. sym p) (λ p. sym p) (bytes_eq-Decides m n)) (bytes_eq-Decides n m) ∙ e

-- the first documents, and the next one put last
pub put-next : (ds : List Doc) (i : ℕ) (d : Doc) → AreDistinctNames ds → slice_get ds i ≡ Some d → put (take i ds) d.name d.root ≡ take (suc i) ds
put-next [] i d apart at = cc
put-next (x ∷ xs) zero d apart at = ap (λ v. v ∷ []) (sym (some_is at))
put-next (x ∷ xs) (suc i) d apart at =
    let other : is_same d.name x.name ≡ false = flipped x.name d.name (later-other x.name xs i d (IsDistinct-head is_same x.name (map (λ v. v.name) xs) apart) at) in
    let rest = put-next xs i d (IsDistinct-tail is_same x.name (map (λ v. v.name) xs) apart) at in
    λ j. cond (other j) (record { name = d.name; root = d.root } ∷ take i xs) (x ∷ rest j)

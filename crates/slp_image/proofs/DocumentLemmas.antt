-- Documents, field by field and one after the other.
use Rattle.std.proofs.Common.{◌≡◌, ℕ, suc, ◌+◌, ◌^◌, ◌-◌, ◌<◌, ◌≤◌, ◌==◌, ◌||◌, Bool, true, false, cond, List, [], ◌∷◌, ◌++◌, map, length, Option, Some, None, option_map, Result, Ok, Err, refl, ap, sym, subst, ◌∙◌, arith, eqb, ltb, if◌then◌else◌}
use Rattle.std.specs.Prelude.{ok_or, is_ok}
use Rattle.std.proofs.lemmas.Bool.{ne_eqb, le-ltb, lt-ltb}
use Rattle.slp_model.specs.declared.NodeId.{NodeId}
use Rattle.doc_book.specs.declared.Doc.{Doc}
use Rattle.doc_book.specs.declared.Missing.TheVariants.{NoSuchDocument}
use Rattle.doc_book.specs.Docs.{is_same, doc_of, root_of, put}
use Rattle.slp_image.specs.declared.refusal.ImageRefusal.{ImageRefusal}
use Rattle.slp_image.specs.declared.refusal.ImageRefusal.TheVariants.{Root, Rest}
use Rattle.slp_image.specs.Fields.{◌>>=◌, Field, number_at}
use Rattle.slp_image.specs.Documents.{Fails}
use Rattle.slp_image.specs.Image.{Document, is_among, names_of, name_at, root_at, document_at, documents_onto, documents_of}
use Rattle.slp_image.specs.Reads.{IsFiled, AreFiled, IsDocument, IsFiling}
use Rattle.slp_image.proofs.StepLemmas.{fails-bind}

-- a name is found if it is among the names
pub among-found : (ds : List Doc) (name : List ℕ) → is_ok (ok_or (root_of ds name) NoSuchDocument) ≡ is_among (map (λ d. d.name) ds) name
among-found [] name = refl
among-found (d ∷ ds) name = by (is_same name d.name) (among-found ds name)
  where
    by : (b : Bool) → is_ok (ok_or (root_of ds name) NoSuchDocument) ≡ is_among (map (λ d. d.name) ds) name
        → is_ok (ok_or (option_map (λ (e : Doc). e.root) (cond b (Some d) (doc_of ds name))) NoSuchDocument) ≡ (b || is_among (map (λ d. d.name) ds) name)
    by true h = refl
    by false h = h

-- a new name goes last
pub put-last : (ds : List Doc) (name : List ℕ) (root : Option NodeId) → is_among (map (λ d. d.name) ds) name ≡ false → put ds name root ≡ ds ++ record { name = name; root = root } ∷ []
put-last [] name root h = refl
put-last (d ∷ ds) name root h = by (is_same name d.name) h (λ k. put-last ds name root k)
  where
    by : (b : Bool) → (b || is_among (map (λ e. e.name) ds) name) ≡ false → (is_among (map (λ e. e.name) ds) name ≡ false → put ds name root ≡ ds ++ record { name = name; root = root } ∷ [])
        → cond b (record { name = name; root = root } ∷ ds) (d ∷ put ds name root) ≡ d ∷ (ds ++ record { name = name; root = root } ∷ [])
    by true k more = cc
    by false k more = ap (λ xs. d ∷ xs) (more k)

pub filed-names : (ids : List NodeId) (fs : List Document) (ds : List Doc) → AreFiled ids fs ds → names_of fs ≡ map (λ d. d.name) ds
filed-names ids [] [] h = refl
filed-names ids (f ∷ fs) (d ∷ ds) h = λ j. sym h.0 j ∷ filed-names ids fs ds h.2 j
filed-names ids [] (d ∷ ds) h = absurd h
filed-names ids (f ∷ fs) [] h = absurd h

pub filed-push : (ids : List NodeId) (fs : List Document) (ds : List Doc) (f : Document) (d : Doc) → AreFiled ids fs ds → d.name ≡ f.name → IsFiled ids f.root d.root → AreFiled ids (fs ++ f ∷ []) (ds ++ d ∷ [])
filed-push ids [] [] f d h n r = (n, r, tt)
filed-push ids (g ∷ fs) (e ∷ ds) f d h n r = (h.0, h.1, filed-push ids fs ds f d h.2 n r)
filed-push ids [] (e ∷ ds) f d h n r = absurd h
filed-push ids (g ∷ fs) [] f d h n r = absurd h

-- a document's fields
pub name-fails : (count : ℕ) (ds : List Document) (bytes : List ℕ) (e : ImageRefusal) → Fails e (name_at (names_of ds) bytes) → Fails e (document_at count ds bytes)
unfolding document_at
name-fails count ds bytes e h = fails-bind e (name_at (names_of ds) bytes) _ h

pub root-fails : (count : ℕ) (ds : List Document) (bytes name after : List ℕ) (e : ImageRefusal) → name_at (names_of ds) bytes ≡ Ok (name, after) → Fails e (root_at count after) → Fails e (document_at count ds bytes)
unfolding document_at
root-fails count ds bytes name after e n h = rw n (fails-bind e (root_at count after) _ h)

pub document-is : (count : ℕ) (ds : List Document) (bytes name after rest : List ℕ) (root : Option ℕ) → name_at (names_of ds) bytes ≡ Ok (name, after) → root_at count after ≡ Ok (root, rest) → document_at count ds bytes ≡ Ok (record { name = name; root = root }, rest)
unfolding document_at
document-is count ds bytes name after rest root n h = rw (n, h) refl

-- a root
pub index-fails : (count : ℕ) (bytes : List ℕ) (e : ImageRefusal) → Fails e (number_at bytes) → Fails e (root_at count bytes)
unfolding root_at
index-fails count bytes e h = fails-bind e (number_at bytes) _ h

pub root-none : (count n : ℕ) (bytes rest : List ℕ) → number_at bytes ≡ Ok (n, rest) → n ≡ 2 ^ 64 - 1 → root_at count bytes ≡ Ok (None, rest)
unfolding root_at
root-none count n bytes rest h z = let e : number_at bytes ≡ Ok (2 ^ 64 - 1, rest) = h ∙ ap (λ (k : ℕ). Ok (k, rest)) z in rw e refl

pub root-past : (count n : ℕ) (bytes rest : List ℕ) → number_at bytes ≡ Ok (n, rest) → n < 2 ^ 64 - 1 → count ≤ n → root_at count bytes ≡ Err Root
unfolding root_at
root-past count n bytes rest h most past =
    let a : eqb n (2 ^ 64 - 1) ≡ false = ne_eqb n (2 ^ 64 - 1) (λ e. omega (arith, e, most)) in
    let b : ltb n count ≡ false = le-ltb n count past in
    rw (h, a, b) refl

pub root-there : (count n : ℕ) (bytes rest : List ℕ) → number_at bytes ≡ Ok (n, rest) → n < 2 ^ 64 - 1 → n < count → root_at count bytes ≡ Ok (Some n, rest)
unfolding root_at
root-there count n bytes rest h most lt =
    let a : eqb n (2 ^ 64 - 1) ≡ false = ne_eqb n (2 ^ 64 - 1) (λ e. omega (arith, e, most)) in
    let b : ltb n count ≡ true = lt-ltb n count lt in
    rw (h, a, b) refl

-- the loop
pub files-init : (ids : List NodeId) (docs : List Doc) (count : ℕ) (rest : List ℕ) → docs ≡ [] → IsFiling ids docs (count - 0) rest (documents_onto (length ids) count [] rest)
files-init ids docs count rest e =
    let all : count - 0 ≡ count = omega arith in
    record { documents = []; shown = subst (λ (ds : List Doc). AreFiled ids [] ds) (sym e) tt; so_far = ap (λ n. documents_onto (length ids) n [] rest) all }

pub files-on : (ids : List NodeId) (docs more : List Doc) (count i : ℕ) (bytes rest : List ℕ) (total : Field (List Document)) → i < count → (s : IsFiling ids docs (count - i) bytes total) → IsDocument ids bytes rest docs more → IsFiling ids more (count - (i + 1)) rest total
files-on ids docs more count i bytes rest total lt s x =
    let k : count - i ≡ suc (count - (i + 1)) = omega arith in
    let one : document_at (length ids) s.documents bytes ≡ Ok (x.document, rest) = x.is s.documents (filed-names ids s.documents docs s.shown) in
    record {
      documents = s.documents ++ x.document ∷ [];
      shown = subst (λ (ds : List Doc). AreFiled ids (s.documents ++ x.document ∷ []) ds) (sym x.added) (filed-push ids s.documents docs x.document x.doc s.shown x.name x.root);
      so_far = sym (ap (λ (d : Field Document). d >>= λ y. documents_onto (length ids) (count - (i + 1)) (s.documents ++ y.0 ∷ []) y.1) one) ∙ (ap (λ n. documents_onto (length ids) n s.documents bytes) (sym k) ∙ s.so_far);
    }

pub files-end : (ids : List NodeId) (docs : List Doc) (count i : ℕ) (bytes : List ℕ) (total : Field (List Document)) (e : ImageRefusal) → i < count → (s : IsFiling ids docs (count - i) bytes total)
    → ((ds : List Document) → names_of ds ≡ map (λ d. d.name) docs → Fails e (document_at (length ids) ds bytes)) → Fails e total
files-end ids docs count i bytes total e lt s h =
    let k : count - i ≡ suc (count - (i + 1)) = omega arith in
    subst (λ (t : Field (List Document)). Fails e t) (ap (λ n. documents_onto (length ids) n s.documents bytes) (sym k) ∙ s.so_far)
    (fails-bind e (document_at (length ids) s.documents bytes) _ (h s.documents (filed-names ids s.documents docs s.shown)))

pub files-done : (ids : List NodeId) (docs : List Doc) (count i : ℕ) (rest : List ℕ) (total : Field (List Document)) → count ≤ i → (s : IsFiling ids docs (count - i) rest total) → total ≡ Ok (s.documents, rest)
files-done ids docs count i rest total le s =
    let k : count - i ≡ 0 = omega arith in
    sym s.so_far ∙ ap (λ n. documents_onto (length ids) n s.documents rest) k

-- what follows the last document
abbrev pub ended : Field (List Document) → Result (List Document) ImageRefusal
ended read = read >>= λ ds. if length ds.1 == 0 then Ok ds.0 else Err Rest

pub documents-is : (count n : ℕ) (bytes rest : List ℕ) → number_at bytes ≡ Ok (n, rest) → documents_of count bytes ≡ ended (documents_onto count n [] rest)
unfolding documents_of
documents-is count n bytes rest h = rw h refl

pub count-fails : (count : ℕ) (bytes : List ℕ) (e : ImageRefusal) → Fails e (number_at bytes) → Fails e (documents_of count bytes)
unfolding documents_of
count-fails count bytes e h = fails-bind e (number_at bytes) _ h

pub ended-rest : (total : Field (List Document)) (ds : List Document) (rest : List ℕ) → total ≡ Ok (ds, rest) → (length rest == 0) ≡ false → ended total ≡ Err Rest
ended-rest total ds rest h some = ap ended h ∙ ap (λ (b : Bool). if b then Ok ds else Err Rest) some

pub ended-all : (total : Field (List Document)) (ds : List Document) (rest : List ℕ) → total ≡ Ok (ds, rest) → (length rest == 0) ≡ true → ended total ≡ Ok ds
ended-all total ds rest h none = ap ended h ∙ ap (λ (b : Bool). if b then Ok ds else Err Rest) none

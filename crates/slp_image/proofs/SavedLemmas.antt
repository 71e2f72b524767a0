-- Documents as they are written.
use Rattle.std.proofs.Common.{◌≡◌, ℕ, suc, ◌+◌, ◌≤◌, true, List, [], ◌∷◌, ◌++◌, length, slice_get, take, Some, option_map, ap, sym, subst, ◌∙◌, arith, append_assoc, append-nil, inl, inr}
use Rattle.std.proofs.lemmas.Bool.{and_parts, leb-true}
use Rattle.std.proofs.lemmas.List.{map-append}
use Rattle.std.proofs.lemmas.Option.{slice_get_within, get_or_from_slice_get}
use Rattle.std.proofs.Math.Seq.{take-suc}
use Rattle.span_types.specs.Names.{is_name}
use Rattle.doc_book.specs.declared.Doc.{Doc}
use Rattle.slp_image.specs.Image.{Document}
use Rattle.slp_image.specs.Written.{document_bytes, documents_bytes}
use Rattle.slp_image.specs.Saved.{AreSaved, saved}
use Rattle.slp_model.proofs.KeptLemmas.{cases_eq}

-- a name has at most 64 bytes
pub name-short : (name : List ℕ) → is_name name ≡ true → length name ≤ 64
name-short name h =
    let rest = and_parts _ _ h in
    let size = and_parts _ _ rest.1 in
    leb-true (length name) 64 size.0

pub documents-push : (ds : List Document) (d : Document) → documents_bytes (ds ++ d ∷ []) ≡ documents_bytes ds ++ document_bytes d
documents-push [] d = append-nil (document_bytes d)
documents-push (e ∷ ds) d = ap (λ bs. document_bytes e ++ bs) (documents-push ds d) ∙ sym (append_assoc (document_bytes e) (documents_bytes ds) (document_bytes d))

pub take-next : (ds : List Doc) (k : ℕ) (d : Doc) → slice_get ds k ≡ Some d → take (suc k) ds ≡ take k ds ++ d ∷ []
take-next ds k d at = take-suc ds k d (slice_get_within ds k d at) ∙ ap (λ (x : Doc). take k ds ++ x ∷ []) (get_or_from_slice_get ds k d d at)

abbrev pub saved_doc : (ℕ → ℕ) → Doc → Document
saved_doc f d = record { name = d.name; root = option_map (λ id. f id.index) d.root }

pub saved-init : (f : ℕ → ℕ) (ds : List Doc) (old : List ℕ) → AreSaved f ds 0 old old
saved-init f ds old = record { named = λ i d lt at. absurd (omega (arith, lt)); bytes = sym (append-nil old) }

pub saved-on : (f : ℕ → ℕ) (ds : List Doc) (k : ℕ) (d : Doc) (old mid new : List ℕ) → AreSaved f ds k old mid → slice_get ds k ≡ Some d → is_name d.name ≡ true → new ≡ mid ++ document_bytes (saved_doc f d) → AreSaved f ds (k + 1) old new
saved-on f ds k d old mid new s at name e =
    let k1 : suc k ≡ k + 1 = omega arith in
    let more : saved f (take (suc k) ds) ≡ saved f (take k ds) ++ saved_doc f d ∷ [] = ap (saved f) (take-next ds k d at) ∙ map-append (saved_doc f) (take k ds) (d ∷ []) in
    record {
      named = λ i x lt is. elim (cases_eq i k) [
        | inl p ↦
            let same : Some x ≡ Some d = sym is ∙ (ap (λ n. slice_get ds n) p ∙ at) in
            let one : x ≡ d = cc same in
            subst (λ (y : Doc). is_name y.name ≡ true) (sym one) name
        | inr ne ↦ s.named i x (omega (arith, lt, ne)) is
      ];
      bytes = e ∙ (ap (λ bs. bs ++ document_bytes (saved_doc f d)) s.bytes ∙ (append_assoc old (documents_bytes (saved f (take k ds))) (document_bytes (saved_doc f d))
          ∙ ap (λ bs. old ++ bs) (sym (ap documents_bytes (ap (λ n. saved f (take n ds)) (sym k1) ∙ more) ∙ documents-push (saved f (take k ds)) (saved_doc f d)))));
    }

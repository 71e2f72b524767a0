-- The documents of a compacted store.
use Rattle.std.specs.Prelude.{◌≡◌, ℕ, ◌<◌, true, Bool, List, ◌++◌, map, slice_get, take, Some, option_map}
use Rattle.span_types.specs.Names.{is_name}
use Rattle.slp_model.specs.Kept.{IsKeptRoot}
use Rattle.doc_book.specs.declared.Doc.{Doc}
use Rattle.slp_image.specs.Image.{Document}
use Rattle.slp_image.specs.Written.{documents_bytes}

-- each document's root is none, or its node is kept
abbrev pub KeepsRoots : List Bool → List Doc → Type 0
KeepsRoots keep ds = (index : ℕ) (d : Doc) → slice_get ds index ≡ Some d → IsKeptRoot keep d.root

-- the documents, with new numbers for their roots
abbrev pub saved : (ℕ → ℕ) → List Doc → List Document
saved f ds = map (λ d. record { name = d.name; root = option_map (λ id. f id.index) d.root }) ds

-- the names of the first k documents are valid, and these documents were written
pub record AreSaved (f : ℕ → ℕ) (ds : List Doc) (k : ℕ) (old new : List ℕ) : Type 0 where
  pub named : (i : ℕ) (d : Doc) → i < k → slice_get ds i ≡ Some d → is_name d.name ≡ true
  pub bytes : new ≡ old ++ documents_bytes (saved f (take k ds))

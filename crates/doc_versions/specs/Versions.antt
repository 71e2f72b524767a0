-- Versions as an ordered list.
use Rattle.std.specs.Prelude.{ℕ, List, [], Option, slice_get, unwrap_or}
use Rattle.std.specs.Option.{option_map}
use Rattle.slp_model.specs.declared.NodeId.{NodeId}
use Rattle.doc_book.specs.declared.Doc.{Doc}
use Rattle.doc_book.specs.Docs.{with_root}
use Rattle.name_map.specs.Named.{Named, with_value}

-- the documents of the version at this index
abbrev pub docs_at : Named (List Doc) → ℕ → List Doc
docs_at versions index = unwrap_or (option_map (λ v. v.1) (slice_get versions index)) []

-- the document at index doc of the version at this index gets the root
abbrev pub with_version_root : Named (List Doc) → ℕ → ℕ → Option NodeId → Named (List Doc)
with_version_root versions index doc root = with_value versions index (with_root (docs_at versions index) doc root)

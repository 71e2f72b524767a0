-- What a compacted store contains.
use Rattle.std.specs.Prelude.{◌≡◌, ◌<◌, ℕ, Bool, List, [], ◌∷◌, ◌++◌, length, map}
use Rattle.slp_model.specs.declared.Node.{Node}
use Rattle.slp_model.specs.Kept.{IsKeptRoot, IsPlanOf}
use Rattle.slp_model.specs.Thin.{AnyReaches, IsCompactionOf, moved, thin}
use Rattle.doc_book.specs.declared.Doc.{Doc}
use Rattle.doc_book.specs.Texts.{AreLive, plain}
use Rattle.name_map.specs.Named.{Named}
use Rattle.doc_book.specs.Docs.{roots_of}
use Rattle.doc_versions.specs.Texts.{AreKept, plain_versions, version_roots}

-- each document's root is none, or its node is kept, and the same for the documents of each version
abbrev pub AreKeptRoots : List Bool → List Doc → Type 0
AreKeptRoots keep [] = Unit {0}
AreKeptRoots keep (d ∷ ds) = IsKeptRoot keep d.root × AreKeptRoots keep ds

abbrev pub AreKeptVersions : List Bool → Named (List Doc) → Type 0
AreKeptVersions keep [] = Unit {0}
AreKeptVersions keep (v ∷ vs) = AreKeptRoots keep v.1 × AreKeptVersions keep vs

-- the documents with their roots under new numbers, and the same for each version
abbrev pub moved_docs : List Bool → List Doc → List Doc
moved_docs keep ds = map (λ d. record { name = d.name; root = moved keep d.root }) ds

abbrev pub moved_versions : List Bool → Named (List Doc) → Named (List Doc)
moved_versions keep vs = map (λ v. (v.0, moved_docs keep v.1)) vs

-- the store has exactly the kept nodes, under the new numbers, which the roots now have; each text is unchanged, and
-- each node is reached from a document or from a document of a version
pub record IsCompacted (ns : List Node) (ds : List Doc) (vs : Named (List Doc)) (keep : List Bool) (ms : List Node) (es : List Doc) (ws : Named (List Doc)) : Type 0 where
  pub plan : IsPlanOf ns keep
  pub thin_is : ms ≡ thin ns keep
  pub trees : IsCompactionOf ns keep ms
  pub live : AreLive ms es
  pub kept : AreKept ms ws
  pub docs_moved : es ≡ moved_docs keep ds
  pub versions_moved : ws ≡ moved_versions keep vs
  pub texts : plain ms es ≡ plain ns ds
  pub versions : plain_versions ms ws ≡ plain_versions ns vs
  pub reached : (j : ℕ) → j < length ms → AnyReaches ms (roots_of es ++ version_roots ws) j

-- The plain texts of versions, and their roots.
use Rattle.std.specs.Prelude.{List, [], ◌∷◌, ◌++◌, Option}
use Rattle.slp_model.specs.declared.NodeId.{NodeId}
use Rattle.slp_model.specs.declared.Node.{Node}
use Rattle.doc_book.specs.declared.Doc.{Doc}
use Rattle.doc_book.specs.Docs.{roots_of}
use Rattle.doc_book.specs.Texts.{Document, AreLive, plain}
use Rattle.name_map.specs.Named.{Named}

-- the roots of the documents of each version
abbrev pub version_roots : Named (List Doc) → List (Option NodeId)
version_roots [] = []
version_roots (v ∷ vs) = roots_of v.1 ++ version_roots vs

-- the plain documents of each version
abbrev pub plain_versions : List Node → Named (List Doc) → Named (List Document)
plain_versions ns [] = []
plain_versions ns (v ∷ vs) = (v.0, plain ns v.1) ∷ plain_versions ns vs

-- the roots of the documents of each version are in the store
abbrev pub AreKept : List Node → Named (List Doc) → Type 0
AreKept ns [] = Unit {0}
AreKept ns (v ∷ vs) = AreLive ns v.1 × AreKept ns vs

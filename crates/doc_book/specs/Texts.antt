-- The texts of documents in a store.
use Rattle.std.specs.Prelude.{ℕ, List, [], ◌∷◌, map}
use Rattle.slp_model.specs.declared.Node.{Node}
use Rattle.slp_model.specs.Nodes.{text_of, IsLive}
use Rattle.doc_book.specs.declared.Doc.{Doc}

-- a document: its name and its text
abbrev pub Document : Type 0
Document = List ℕ × List ℕ

-- the documents as plain texts
abbrev pub plain : List Node → List Doc → List Document
plain ns ds = map (λ d. (d.name, text_of ns d.root)) ds

-- the roots of the documents are live
abbrev pub AreLive : List Node → List Doc → Type 0
AreLive ns [] = Unit {0}
AreLive ns (d ∷ ds) = IsLive ns d.root × AreLive ns ds

-- A reader in the middle of an image: how its entries show the records so far.
use Rattle.std.specs.Prelude.{◌≡◌, ℕ, ◌+◌, ◌≤◌, List, [], ◌∷◌, ◌++◌, map, length, slice_get, Option, Some, None, Result, Ok, Err}
use Rattle.slp_model.specs.declared.NodeId.{NodeId}
use Rattle.slp_model.specs.declared.Node.{Node}
use Rattle.slp_model.specs.Tree.{Tree, Leaf, text}
use Rattle.slp_model.specs.Nodes.{trees, Grows, AreLiveIds}
use Rattle.doc_book.specs.declared.Doc.{Doc}
use Rattle.slp_rebalance.specs.Entries.{entry_trees}
use Rattle.slp_image.specs.Fields.{Field, byte_at}
use Rattle.slp_image.specs.Image.{Added, Outcome, Document, Contents, node_at, text_at, records_onto, names_of, root_at, document_at, documents_onto, documents_of, content_of, at}
use Rattle.doc_book.specs.Texts.{AreLive, plain}
use Rattle.slp_image.specs.Documents.{Fails, rooted, filed}
use Rattle.slp_image.specs.declared.refusal.ImageRefusal.{ImageRefusal}
use Rattle.slp_image.specs.declared.records.Format.{Format}
use Rattle.slp_image.specs.declared.records.Format.TheVariants.{Nodes, Texts}

-- the result of a function, through view, is the result of reading, unless an allocation failed
abbrev pub Gives : {X Y : Type 0} → (X → Y) → Result X ImageRefusal → Result Y ImageRefusal → Type 0
Gives view (Ok x) read = read ≡ Ok (view x)
Gives view (Err e) read = Fails e read

-- the records of version 1 have these trees
abbrev pub HaveThese : List Node → List Tree → Type 0
HaveThese ns ts = trees ns ≡ ts

-- the texts of the records of version 2 are those of the trees
abbrev pub AreTexts : List (List ℕ) → List Tree → Type 0
AreTexts ss ts = map text ts ≡ ss

-- what is kept for a record, how the trees show what is kept, and what a record is
abbrev pub Kept : Format → Type 0
Kept Nodes = Node
Kept Texts = List ℕ

abbrev pub Show : (f : Format) → List (Kept f) → List Tree → Type 0
Show Nodes = HaveThese
Show Texts = AreTexts

abbrev pub record_at : (f : Format) → List (Kept f) → List ℕ → Field (Added (Kept f))
record_at Nodes = node_at
record_at Texts = text_at

-- a byte was read, and its tree is added last
pub record IsByte (bytes rest : List ℕ) (old new : List Tree) : Type 0 where
  pub byte : ℕ
  pub is : byte_at bytes ≡ Ok (byte, rest)
  pub added : new ≡ old ++ Leaf byte ∷ []

abbrev pub ReadsByte : {X : Type 0} → (X → List ℕ) → List ℕ → List Tree → List Tree → Result X ImageRefusal → Type 0
ReadsByte view bytes old new (Ok x) = IsByte bytes (view x) old new
ReadsByte view bytes old new (Err e) = Fails e (byte_at bytes)

-- a record after ms was read up to rest, and the trees now have it too
pub record IsRecord (M : Type 0) (Shows : List M → List Tree → Type 0) (ms : List M) (read : Field (Added M)) (rest : List ℕ) (new : List Tree) : Type 0 where
  pub added : Added M
  pub is : read ≡ Ok (added, rest)
  pub shown : Shows (ms ++ added.entry ∷ []) new

abbrev pub ReadsRecord : {M X : Type 0} → (List M → List Tree → Type 0) → (X → List ℕ) → List M → Field (Added M) → List Tree → Result X ImageRefusal → Type 0
ReadsRecord {M} Shows view ms read new (Ok x) = IsRecord M Shows ms read (view x) new
ReadsRecord Shows view ms read new (Err e) = Fails e read

abbrev pub cost_of : {M : Type 0} → Field (Added M) → ℕ
cost_of (Ok x) = x.0.cost
cost_of (Err e) = 0

-- In the middle of the records: some were read and are among the entries, the cost is at most this, and what holds of
-- the rest holds of all.
pub record IsReading (M : Type 0) (Shows : List M → List Tree → Type 0) (step : List M → List ℕ → Field (Added M)) (old store : List Node) (ids : List NodeId) (before after left : ℕ) (rest : List ℕ) (total : Outcome (List M × List ℕ)) : Type 0 where
  pub grows : Grows old store before after
  pub live : AreLiveIds store ids
  pub records : List M
  pub cost : ℕ
  pub shown : Shows records (entry_trees store ids)
  pub so_far : records_onto step left records cost rest ≡ total
  pub paid : after ≤ before + cost

-- all records were read up to rest
pub record AreRecords (M : Type 0) (Shows : List M → List Tree → Type 0) (read : Result (List M × List ℕ) ImageRefusal) (rest : List ℕ) (new : List Tree) : Type 0 where
  pub records : List M
  pub is : read ≡ Ok (records, rest)
  pub shown : Shows records new

abbrev pub ReadsRecords : {M X : Type 0} → (List M → List Tree → Type 0) → (X → List ℕ) → Result (List M × List ℕ) ImageRefusal → List Tree → Result X ImageRefusal → Type 0
ReadsRecords {M} Shows view read new (Ok x) = AreRecords M Shows read (view x) new
ReadsRecords Shows view read new (Err e) = Fails e read

-- the root of a document, among the entries
abbrev pub IsFiled : List NodeId → Option ℕ → Option NodeId → Type 0
IsFiled ids None None = Unit {0}
IsFiled ids (Some i) (Some id) = slice_get ids i ≡ Some id
IsFiled ids None (Some id) = ⊥
IsFiled ids (Some i) None = ⊥

-- the documents, read one after the other
abbrev pub AreFiled : List NodeId → List Document → List Doc → Type 0
AreFiled ids [] [] = Unit {0}
AreFiled ids (f ∷ fs) (d ∷ ds) = (d.name ≡ f.name) × IsFiled ids f.root d.root × AreFiled ids fs ds
AreFiled ids [] (d ∷ ds) = ⊥
AreFiled ids (f ∷ fs) [] = ⊥

-- a root was read up to rest
pub record IsRoot (ids : List NodeId) (bytes rest : List ℕ) (root : Option NodeId) : Type 0 where
  pub number : Option ℕ
  pub is : root_at (length ids) bytes ≡ Ok (number, rest)
  pub there : IsFiled ids number root

abbrev pub ReadsRoot : {X : Type 0} → (X → Option NodeId × List ℕ) → List NodeId → List ℕ → Result X ImageRefusal → Type 0
ReadsRoot view ids bytes (Ok x) = IsRoot ids bytes (view x).1 (view x).0
ReadsRoot view ids bytes (Err e) = Fails e (root_at (length ids) bytes)

-- a document was read up to rest, whatever documents with these names came before, and is added last
pub record IsDocument (ids : List NodeId) (bytes rest : List ℕ) (old new : List Doc) : Type 0 where
  pub document : Document
  pub doc : Doc
  pub is : (ds : List Document) → names_of ds ≡ map (λ d. d.name) old → document_at (length ids) ds bytes ≡ Ok (document, rest)
  pub name : doc.name ≡ document.name
  pub root : IsFiled ids document.root doc.root
  pub added : new ≡ old ++ doc ∷ []

abbrev pub ReadsDocument : {X : Type 0} → (X → List ℕ) → List NodeId → List ℕ → List Doc → List Doc → Result X ImageRefusal → Type 0
ReadsDocument view ids bytes old new (Ok x) = IsDocument ids bytes (view x) old new
ReadsDocument view ids bytes old new (Err e) = (ds : List Document) → names_of ds ≡ map (λ d. d.name) old → Fails e (document_at (length ids) ds bytes)

-- In the middle of the documents: some were read, and what holds of the rest holds of all.
pub record IsFiling (ids : List NodeId) (docs : List Doc) (left : ℕ) (rest : List ℕ) (total : Field (List Document)) : Type 0 where
  pub documents : List Document
  pub shown : AreFiled ids documents docs
  pub so_far : documents_onto (length ids) left documents rest ≡ total

-- all documents were read
pub record AreDocuments (ids : List NodeId) (read : Result (List Document) ImageRefusal) (docs : List Doc) : Type 0 where
  pub documents : List Document
  pub is : read ≡ Ok documents
  pub shown : AreFiled ids documents docs

abbrev pub ReadsDocuments : List NodeId → List ℕ → Result (List Doc) ImageRefusal → Type 0
ReadsDocuments ids bytes (Ok docs) = AreDocuments ids (documents_of (length ids) bytes) docs
ReadsDocuments ids bytes (Err e) = Fails e (documents_of (length ids) bytes)

-- the documents of version 1, with their trees
pub record AreNodes (ns : List Node) (read : Result (Contents Node) ImageRefusal) (docs : List Doc) : Type 0 where
  pub live : AreLive ns docs
  pub whole : Contents Node
  pub is : read ≡ Ok whole
  pub same : rooted ns docs ≡ filed whole

abbrev pub ReadsNodes : List Node → Result (Contents Node) ImageRefusal → Result (List Doc) ImageRefusal → Type 0
ReadsNodes ns read (Ok docs) = AreNodes ns read docs
ReadsNodes ns read (Err e) = Fails e read

-- the documents of version 2, with their texts
pub record AreReadTexts (ns : List Node) (read : Result (Contents (List ℕ)) ImageRefusal) (docs : List Doc) : Type 0 where
  pub live : AreLive ns docs
  pub whole : Contents (List ℕ)
  pub is : read ≡ Ok whole
  pub same : plain ns docs ≡ map (λ d. (d.name, content_of (at whole.records) d.root)) whole.documents

abbrev pub ReadsTexts : List Node → Result (Contents (List ℕ)) ImageRefusal → Result (List Doc) ImageRefusal → Type 0
ReadsTexts ns read (Ok docs) = AreReadTexts ns read docs
ReadsTexts ns read (Err e) = Fails e read

abbrev pub ReadsContents : (f : Format) → List Node → Result (Contents (Kept f)) ImageRefusal → Result (List Doc) ImageRefusal → Type 0
ReadsContents Nodes = ReadsNodes
ReadsContents Texts = ReadsTexts

-- What the bytes of an image mean: its documents, or the first rejection, and the cost up to it.
use Rattle.std.specs.Prelude.{ℕ, zero, suc, ◌+◌, ◌*◌, ◌-◌, ◌^◌, ◌==◌, ◌||◌, List, [], ◌∷◌, ◌++◌, length, map, get_or, Option, Some, None, Result, Ok, Err, Bool, false, nat_eq, nat_lt, nat_le, if◌then◌else◌}
use Rattle.std.specs.Cmp.Lexicographic.{pointwise}
use Rattle.span_types.specs.Names.{is_name}
use Rattle.slp_model.specs.declared.Node.{Node}
use Rattle.slp_model.specs.declared.Node.TheVariants.{Byte, Pair}
use Rattle.slp_model.specs.Tree.{leaves, height, text}
use Rattle.slp_model.specs.Nodes.{tree}
use Rattle.slp_model.specs.Join.{is_near}
use Rattle.doc_book.specs.Docs.{is_same}
use Rattle.slp_rebalance.specs.Copies.{copies, run_cost}
use Rattle.slp_image.specs.Fields.{◌>>=◌, Field, byte_at, number_at, bytes_at, child_at, children_at}
use Rattle.slp_image.specs.declared.refusal.ImageRefusal.{ImageRefusal}
use Rattle.slp_image.specs.declared.refusal.ImageRefusal.TheVariants.{Magic, Version, Kind, Balance, Length, Root, Name, RepeatName, Rest, Count}

-- one more record: the value kept for it, and its cost
pub record Added (M : Type 0) : Type 0 where
  pub entry : M
  pub cost : ℕ

-- VERSION 1: the value kept for a record is its node, and ns are the nodes so far

-- a pair of two of them, whose heights are to differ by at most one and whose lengths sum to at most 2^48
abbrev pub near_pair : List Node → ℕ → ℕ → List ℕ → Field (Added Node)
near_pair ns l r rest =
    if is_near (height (tree ns l)) (height (tree ns r))
    then (if nat_le (leaves (tree ns l) + leaves (tree ns r)) (2 ^ 48) then Ok (record { entry = Pair (record { index = l }) (record { index = r }); cost = 1 }, rest) else Err Length)
    else Err Balance

-- a record of kind 1 of version 1: the numbers of two earlier nodes whose pair is balanced
unfoldable pub node_pair : List Node → List ℕ → Field (Added Node)
node_pair ns bytes = do
  children ← children_at (length ns) bytes
  near_pair ns children.0.0 children.0.1 children.1

-- a byte, for which this value is kept
unfoldable pub byte_record : {M : Type 0} → (ℕ → M) → List ℕ → Field (Added M)
byte_record keep bytes = do
  b ← byte_at bytes
  Ok (record { entry = keep b.0; cost = 0 }, b.1)

-- a record of version 1: its kind, which is 0 for a byte or 1 for a pair, and its fields
unfoldable pub node_at : List Node → List ℕ → Field (Added Node)
node_at ns bytes = do
  kind ← byte_at bytes
  if kind.0 == 0 then byte_record Byte kind.1 else if kind.0 == 1 then node_pair ns kind.1 else Err Kind

-- VERSION 2: the value kept for a record is its text, and ts are the texts so far

-- the text of an earlier record
abbrev pub at : List (List ℕ) → ℕ → List ℕ
at ts i = get_or ts i []

-- a record of kind 1 of version 2: the numbers of two earlier records; its text is theirs, one after the other
unfoldable pub text_pair : List (List ℕ) → List ℕ → Field (Added (List ℕ))
text_pair ts bytes = do
  children ← children_at (length ts) bytes
  if nat_le (length (at ts children.0.0) + length (at ts children.0.1)) (2 ^ 48) then Ok (record { entry = at ts children.0.0 ++ at ts children.0.1; cost = 205 }, children.1) else Err Length

-- a record of kind 2: the number of an earlier record and a count from 1; its text is that many copies
unfoldable pub text_run : List (List ℕ) → List ℕ → Field (Added (List ℕ))
text_run ts bytes = do
  child ← child_at (length ts) bytes
  count ← number_at child.1
  if count.0 == 0 then Err Count else if nat_le (count.0 * length (at ts child.0)) (2 ^ 48) then Ok (record { entry = copies count.0 (at ts child.0); cost = run_cost 64 count.0 }, count.1) else Err Length

-- a record of version 2: its kind, which is 0 for a byte, 1 for a pair or 2 for copies, and its fields
unfoldable pub text_at : List (List ℕ) → List ℕ → Field (Added (List ℕ))
text_at ts bytes = do
  kind ← byte_at bytes
  if kind.0 == 0 then byte_record (λ b. b ∷ []) kind.1 else if kind.0 == 1 then text_pair ts kind.1 else if kind.0 == 2 then text_run ts kind.1 else Err Kind

-- BOTH VERSIONS

-- a result, and the cost up to it
pub record Outcome (A : Type 0) : Type 0 where
  pub cost : ℕ
  pub answer : Result A ImageRefusal

-- n more records, after those in ms, which had this cost
abbrev pub records_onto : {M : Type 0} → (List M → List ℕ → Field (Added M)) → ℕ → List M → ℕ → List ℕ → Outcome (List M × List ℕ)
records_onto step zero ms cost bytes = record { cost = cost; answer = Ok (ms, bytes) }
records_onto step (suc n) ms cost bytes = elim (step ms bytes) [
  | Ok x ↦ records_onto step n (ms ++ x.0.entry ∷ []) (cost + x.0.cost) x.1
  | Err why ↦ record { cost = cost; answer = Err why }
]

-- a document: its name, and the number of a record, or none for the empty text
pub record Document : Type 0 where
  pub name : List ℕ
  pub root : Option ℕ

-- whether the name is among these
abbrev pub is_among : List (List ℕ) → List ℕ → Bool
is_among [] name = false
is_among (n ∷ ns) name = is_same name n || is_among ns name

-- a name that isn't among those of the documents before
unfoldable pub name_at : List (List ℕ) → List ℕ → Field (List ℕ)
name_at names bytes = do
  size ← byte_at bytes
  name ← bytes_at size.0 size.1
  if is_name name.0 then (if is_among names name.0 then Err RepeatName else Ok name) else Err Name

-- a root, if there are n records
unfoldable pub root_at : ℕ → List ℕ → Field (Option ℕ)
root_at count bytes = do
  root ← number_at bytes
  if root.0 == 2 ^ 64 - 1 then Ok (None, root.1) else if nat_lt root.0 count then Ok (Some root.0, root.1) else Err Root

-- the names of the documents, in order
abbrev pub names_of : List Document → List (List ℕ)
names_of ds = map (λ d. d.name) ds

-- a document: a name that none of these has, and its root
unfoldable pub document_at : ℕ → List Document → List ℕ → Field Document
document_at count ds bytes = do
  name ← name_at (names_of ds) bytes
  root ← root_at count name.1
  Ok (record { name = name.0; root = root.0 }, root.1)

-- n more documents, after ds
abbrev pub documents_onto : ℕ → ℕ → List Document → List ℕ → Field (List Document)
documents_onto count zero ds bytes = Ok (ds, bytes)
documents_onto count (suc n) ds bytes = document_at count ds bytes >>= λ d. documents_onto count n (ds ++ d.0 ∷ []) d.1

-- all documents, and nothing after them
unfoldable pub documents_of : ℕ → List ℕ → Result (List Document) ImageRefusal
documents_of count bytes = do
  n ← number_at bytes
  ds ← documents_onto count n.0 [] n.1
  if length ds.1 == 0 then Ok ds.0 else Err Rest

-- the records and the documents
pub record Contents (M : Type 0) : Type 0 where
  pub records : List M
  pub documents : List Document

-- the documents that follow the records, with the cost of the records
abbrev pub contents_after : {M : Type 0} → Outcome (List M × List ℕ) → Outcome (Contents M)
contents_after read = record { cost = read.cost; answer = read.answer >>= λ x. documents_of (length x.0) x.1 >>= λ ds. Ok (record { records = x.0; documents = ds }) }

-- the records and the documents that follow the number of records
abbrev pub after_count : {M : Type 0} → (List M → List ℕ → Field (Added M)) → Field ℕ → Outcome (Contents M)
after_count step (Err why) = record { cost = 0; answer = Err why }
after_count step (Ok n) = contents_after (records_onto step n.0 [] 0 n.1)

-- what follows the version
unfoldable pub contents : {M : Type 0} → (List M → List ℕ → Field (Added M)) → List ℕ → Outcome (Contents M)
contents step bytes = after_count step (number_at bytes)

-- the version: one byte, 1 or 2
unfoldable pub version_of : List ℕ → Field ℕ
version_of bytes = do
  version ← byte_at bytes
  if (version.0 == 1) || (version.0 == 2) then Ok version else Err Version

-- whether these are the magic bytes of an image
abbrev pub is_magic : List ℕ → Bool
is_magic bytes = pointwise nat_eq bytes (83 ∷ (76 ∷ (80 ∷ (73 ∷ []))))

-- the magic bytes, and the version after them
unfoldable pub version_at : List ℕ → Field ℕ
version_at bytes = do
  magic ← bytes_at 4 bytes
  if is_magic magic.0 then version_of magic.1 else Err Magic

-- the names and texts of the documents, and the number of nodes
pub record Meaning : Type 0 where
  pub documents : List (List ℕ × List ℕ)
  pub nodes : ℕ

-- the text of a root, where this is the text of a record
abbrev pub content_of : (ℕ → List ℕ) → Option ℕ → List ℕ
content_of content None = []
content_of content (Some i) = content i

-- what an image specifies: the text of each document, and the number of records
abbrev pub meaning : {M : Type 0} → (List M → ℕ → List ℕ) → Outcome (Contents M) → Outcome Meaning
meaning content read = record { cost = read.cost; answer = read.answer >>= λ x. Ok (record { documents = map (λ d. (d.name, content_of (content x.records) d.root)) x.documents; nodes = length x.records }) }

-- the text of the node with this number
abbrev pub node_text : List Node → ℕ → List ℕ
node_text ns i = text (tree ns i)

-- what an image specifies whose version has been read
abbrev pub image_of : Field ℕ → Outcome Meaning
image_of (Err why) = record { cost = 0; answer = Err why }
image_of (Ok v) = if v.0 == 1 then meaning node_text (contents node_at v.1) else meaning at (contents text_at v.1)

-- what the bytes of an image specify, or why they are rejected
unfoldable pub image : List ℕ → Outcome Meaning
image bytes = image_of (version_at bytes)

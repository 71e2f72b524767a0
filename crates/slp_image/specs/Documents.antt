-- Documents in a store, and the documents of an image.
use Rattle.std.specs.Prelude.{◌≡◌, ℕ, List, map, Option, option_map, Result, Ok, Err}
use Rattle.slp_model.specs.declared.Node.{Node}
use Rattle.slp_model.specs.Tree.{Tree}
use Rattle.slp_model.specs.Nodes.{tree, root_tree}
use Rattle.doc_book.specs.declared.Doc.{Doc}
use Rattle.doc_book.specs.Texts.{plain, AreLive}
use Rattle.slp_image.specs.declared.refusal.ImageRefusal.{ImageRefusal}
use Rattle.slp_image.specs.declared.refusal.ImageRefusal.TheVariants.{NoMemory}
use Rattle.slp_image.specs.Image.{Contents, Meaning, contents, node_at, version_at}

-- the names and trees of the documents in a store
abbrev pub rooted : List Node → List Doc → List (List ℕ × Option Tree)
rooted ns ds = map (λ d. (d.name, root_tree ns d.root)) ds

-- the names and trees of the documents of an image of version 1
abbrev pub filed : Contents Node → List (List ℕ × Option Tree)
filed x = map (λ d. (d.name, option_map (λ i. tree x.records i) d.root)) x.documents

-- in version 1 each document's tree is that of its root in the image
abbrev pub HaveTrees : List ℕ → List Node → List Doc → Type 0
HaveTrees bytes ns ds = (after : List ℕ) (x : Contents Node) → version_at bytes ≡ Ok (1, after) → (contents node_at after).answer ≡ Ok x → rooted ns ds ≡ filed x

-- the image is rejected for this reason, unless an allocation failed
abbrev pub Fails : {Y : Type 0} → ImageRefusal → Result Y ImageRefusal → Type 0
Fails NoMemory read = Unit {0}
Fails why read = read ≡ Err why

-- these documents were read
pub record AreRead (ns : List Node) (answer : Result Meaning ImageRefusal) (ds : List Doc) : Type 0 where
  pub live : AreLive ns ds
  pub nodes : ℕ
  pub is : answer ≡ Ok (record { documents = plain ns ds; nodes = nodes })

-- the result of a reader: the documents, the first rejection, or allocation failure
abbrev pub Reads : List Node → Result Meaning ImageRefusal → Result (List Doc) ImageRefusal → Type 0
Reads ns answer (Ok ds) = AreRead ns answer ds
Reads ns answer (Err why) = Fails why answer

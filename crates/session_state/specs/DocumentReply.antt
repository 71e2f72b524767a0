-- A document with its root, and the reply to an assignment.
use Rattle.std.specs.Prelude.{◌≡◌, ℕ, List, Option, Some}
use Rattle.slp_model.specs.declared.Node.{Node}
use Rattle.slp_model.specs.declared.NodeId.{NodeId}
use Rattle.slp_model.specs.Nodes.{IsLive, text_of}
use Rattle.doc_book.specs.declared.Doc.{Doc}
use Rattle.doc_book.specs.Texts.{plain}
use Rattle.span_language.specs.Replies.{given_text}
use Rattle.span_language.specs.State.{Documents, put, value_of}
use Rattle.span_language.specs.declared.told.Told.{Told}
use Rattle.span_language.specs.declared.told.Told.TheVariants.{Accepted}

-- the document with the name has this root, and the root's text
pub record IsDocument (ns : List Node) (ds : List Doc) (name : List ℕ) (root : Option NodeId) : Type 0 where
  pub live : IsLive ns root
  pub text : value_of (plain ns ds) name ≡ Some (text_of ns root)

-- the reply has the name and describes the text
abbrev pub IsDocumentReply : List ℕ → List ℕ → Told → List ℕ → Type 0
IsDocumentReply name text told reply = (told ≡ Accepted) × (reply ≡ given_text name text)

-- the document has the text, and the reply describes it
abbrev pub Sets : Documents → List ℕ → List ℕ → Told → List ℕ → Documents → Type 0
Sets old name text told reply new = IsDocumentReply name text told reply × (new ≡ put old name text)

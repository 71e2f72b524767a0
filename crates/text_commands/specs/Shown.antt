-- Replies about texts and files: after an assignment to a name, for an expression, for a range, and for a file.
use Rattle.std.specs.Prelude.{◌≡◌, ℕ, List, length, Some, Result, Ok, Err}
use Rattle.edge_io.specs.declared.PutRefusal.{PutRefusal}
use Rattle.edge_io.specs.declared.PutRefusal.TheVariants as put
use Rattle.edit_expr.specs.Eval.{Outcome}
use Rattle.edit_expr.specs.declared.refusal.EditRefusal.{EditRefusal}
use Rattle.slp_image.specs.Fields.{kind_of}
use Rattle.slp_image.specs.Image.{Meaning}
use Rattle.slp_image.specs.declared.refusal.ImageRefusal.{ImageRefusal}
use Rattle.report_text.specs.Reply.{shown_text, opened_text, refusal_text}
use Rattle.report_text.specs.declared.refusal.Refusal.{Refusal}
use Rattle.report_text.specs.declared.refusal.Refusal.TheVariants.{NoSuchFile, CannotRead, CannotWrite, FileTooLong, BadImage}
use Rattle.text_commands.specs.declared.reading.FileRefusal.{FileRefusal}
use Rattle.text_commands.specs.declared.reading.FileRefusal.TheVariants.{Absent, Denied, TooLong, Failed, NoMemory}
use Rattle.session_state.specs.DocumentReply.{Sets}
use Rattle.span_language.specs.State.{Documents}
use Rattle.span_language.specs.Replies.{IsEditRefusal}
use Rattle.span_language.specs.declared.told.Stop.{Stop}
use Rattle.span_language.specs.declared.told.Stop.TheVariants as stop
use Rattle.span_language.specs.declared.told.Told.{Told}
use Rattle.span_language.specs.declared.told.Told.TheVariants.{Accepted, Refused}

-- the reply is the rejection of an expression
abbrev pub IsEditRejectionReply : ℕ → EditRefusal → Told → List ℕ → Type 0
IsEditRejectionReply number refusal told reply = (told ≡ Refused) × (why : Refusal) × IsEditRefusal refusal why × (reply ≡ refusal_text number why)

-- the reply is the rejection of a file
abbrev pub IsFileRejectionReply : ℕ → List ℕ → FileRefusal → Told → List ℕ → Type 0
IsFileRejectionReply number file Absent told reply = (told ≡ Refused) × (reply ≡ refusal_text number (NoSuchFile file))
IsFileRejectionReply number file Denied told reply = (told ≡ Refused) × (reply ≡ refusal_text number (CannotRead file))
IsFileRejectionReply number file TooLong told reply = (told ≡ Refused) × (reply ≡ refusal_text number (FileTooLong file))
IsFileRejectionReply number file Failed told reply = ⊥
IsFileRejectionReply number file NoMemory told reply = ⊥

-- the reply to a command that put a file: this line, or the rejection if the file may not be written
abbrev pub IsPutReply : ℕ → List ℕ → List ℕ → Result (Unit {0}) PutRefusal → Told → List ℕ → Type 0
IsPutReply number file line (Ok done) told reply = (told ≡ Accepted) × (reply ≡ line)
IsPutReply number file line (Err put.Denied) told reply = (told ≡ Refused) × (reply ≡ refusal_text number (CannotWrite file))
IsPutReply number file line (Err put.Failed) told reply = ⊥
IsPutReply number file line (Err put.NoMemory) told reply = ⊥

-- why a command that put a file was stopped: the put failed, or an allocation failed in the put or for the reply
abbrev pub IsPutStop : Result (Unit {0}) PutRefusal → Stop → Type 0
IsPutStop (Ok done) why = ⊥
IsPutStop (Err put.Failed) why = why ≡ stop.ShelfFault
IsPutStop (Err put.Denied) why = why ≡ stop.NoMemory
IsPutStop (Err put.NoMemory) why = why ≡ stop.NoMemory

-- the document has the value of an expression, or the reply is its rejection
abbrev pub Assigns : Documents → ℕ → List ℕ → Outcome → Told → List ℕ → Documents → Type 0
Assigns old number name (Ok text) told reply new = Sets old name text told reply new
Assigns old number name (Err refusal) told reply new = IsEditRejectionReply number refusal told reply × (new ≡ old)

-- the reply has the bytes, or is the rejection
abbrev pub IsShown : ℕ → Result (List ℕ) Refusal → Told → List ℕ → Type 0
IsShown number (Ok bytes) told reply = (told ≡ Accepted) × (reply ≡ shown_text bytes)
IsShown number (Err why) told reply = (told ≡ Refused) × (reply ≡ refusal_text number why)

-- the documents are those of an image, or the reply has its fault
abbrev pub Opens : Documents → ℕ → Result Meaning ImageRefusal → Told → List ℕ → Documents → Type 0
Opens old number (Ok m) told reply new = (told ≡ Accepted) × (reply ≡ opened_text (length m.documents)) × (new ≡ m.documents)
Opens old number (Err why) told reply new = (told ≡ Refused) × (kind : ℕ) × (kind_of why ≡ Some kind) × (reply ≡ refusal_text number (BadImage kind)) × (new ≡ old)

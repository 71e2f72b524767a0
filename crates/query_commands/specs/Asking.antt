-- The document and the query that a command asks about, and what a command writes that changes nothing.
use Rattle.std.specs.Prelude.{◌≡◌, ℕ, List, Option, Some, Result, IfOk}
use Rattle.query_book.specs.Book.{queries_of}
use Rattle.report_text.specs.declared.refusal.Refusal.{Refusal}
use Rattle.report_text.specs.declared.refusal.Refusal.TheVariants.{NoSuchDocument, NoSuchQuery}
use Rattle.script_syntax.specs.declared.form.Command.{Command}
use Rattle.session_state.specs.DocumentReply.{IsDocument}
use Rattle.session_state.specs.declared.session.SessionState.{SessionState}
use Rattle.slp_model.specs.declared.NodeId.{NodeId}
use Rattle.span_language.specs.Allowance.{Counters, PaysFor}
use Rattle.span_language.specs.State.{World, value_of}
use Rattle.span_language.specs.Step.{Carries}
use Rattle.span_language.specs.declared.told.Stop.{Stop}
use Rattle.span_language.specs.declared.told.Told.{Told}
use Rattle.span_types.specs.Query.{Query}
use Rattle.span_types.specs.Rel.{names_of}
use Rattle.query_commands.specs.declared.subject.AskRefusal.{AskRefusal}
use Rattle.query_commands.specs.declared.subject.AskRefusal.TheVariants as refusal

-- the document has this root, and there is a query with the name, which has these variables
pub record IsFound (h : SessionState) (query name : List ℕ) (root : Option NodeId) (names : List (List ℕ)) : Type 0 where
  pub document : IsDocument h.store h.docs name root
  pub tree : Query
  pub registered : value_of (queries_of h.book) query ≡ Some tree
  pub variables : names_of tree ≡ names

-- the rejection of a question, with the name that doesn't exist
abbrev pub unasked_reason : AskRefusal → List ℕ → List ℕ → Refusal
unasked_reason refusal.NoSuchDocument query name = NoSuchDocument name
unasked_reason refusal.NoSuchQuery query name = NoSuchQuery query

-- a reply to a command that changes nothing is written, at the command's cost
pub record Sends (w : World) (number : ℕ) (command : Command) (Writes : List ℕ → Type 0) (result : Result Told Stop) (before after : Counters) : Type 0 where
  pub told : Told
  pub reply : List ℕ
  pub told_is : IfOk result (λ t. t ≡ told)
  pub carries : Carries w number command told reply w
  pub paid : PaysFor w command before after
  pub writes : Writes reply

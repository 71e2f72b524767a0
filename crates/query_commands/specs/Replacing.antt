-- The effect and the cost of the parts of a replacement.
use Rattle.std.specs.Prelude.{Bool, if◌then◌else◌, ◌≡◌, ◌⊎◌, ℕ, ◌+◌, ◌*◌, ◌<◌, ◌≤◌, ◌^◌, List, length, min, Result}
use Rattle.report_text.specs.Reply.{refusal_text}
use Rattle.report_text.specs.declared.refusal.Refusal.{Refusal}
use Rattle.report_text.specs.declared.refusal.Refusal.TheVariants as refusal
use Rattle.span_replace.specs.Outcomes.{IsChoice}
use Rattle.span_replace.specs.declared.refusal.ReplaceRefusal.{ReplaceRefusal}
use Rattle.span_types.specs.declared.tuple.Span.{Span}
use Rattle.span_types.specs.Fibonacci.{looks_limit}
use Rattle.span_types.specs.Query.{Query}
use Rattle.span_language.specs.State.{Documents, put}
use Rattle.span_language.specs.Step.{IsTakenOf, most_spans}
use Rattle.span_language.specs.declared.told.Told.{Told}
use Rattle.span_language.specs.declared.told.Told.TheVariants.{Refused}
use Rattle.session_state.specs.DocumentReply.{IsDocument, IsDocumentReply}
use Rattle.session_state.specs.declared.session.SessionState.{SessionState}
use Rattle.query_commands.specs.declared.replacement.Sources.{Sources}
use Rattle.query_commands.specs.declared.replacement.SourceRefusal.{SourceRefusal}
use Rattle.query_commands.specs.declared.replacement.SourceRefusal.TheVariants as sources

-- the documents have these roots
pub record AreSources (h : SessionState) (source by : List ℕ) (s : Sources) : Type 0 where
  pub root : IsDocument h.store h.docs source s.root
  pub other : IsDocument h.store h.docs by s.other

-- the rejection of a replacement, with the name of the document that doesn't exist
abbrev pub unreplaced_reason : SourceRefusal → List ℕ → List ℕ → Refusal
unreplaced_reason sources.NoSuchSource source by = refusal.NoSuchDocument source
unreplaced_reason sources.NoSuchOther source by = refusal.NoSuchDocument by

-- the spans of a query of one variable on a text that are replaced, the longest ones or the first that don't overlap, or
-- there are too many
pub record Chooses (longest : Bool) (q : Query) (text : List ℕ) (result : Result (List Span) ReplaceRefusal) (before after : ℕ) : Type 0 where
  pub spans : List Span
  pub chosen : IsTakenOf longest q text spans
  pub choice : IsChoice spans result
  pub cost : after ≤ before + (if longest then 8 else 3) * (min (length spans) most_spans + 1) * looks_limit 1 (length text)

-- the document has the text, or the reply states that it would be too long
abbrev pub Replaces : Documents → ℕ → List ℕ → List ℕ → Told → List ℕ → Documents → Type 0
Replaces old number name text told reply new = ((length text ≤ 2 ^ 48) × IsDocumentReply name text told reply × (new ≡ put old name text))
    ⊎ ((2 ^ 48 < length text) × (told ≡ Refused) × (reply ≡ refusal_text number (refusal.TooLong (length text))) × (new ≡ old))

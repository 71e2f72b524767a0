-- Replies to questions about a text.
use Rattle.std.specs.Prelude.{◌≡◌, ◌⊎◌, ℕ, ◌+◌, ◌≤◌, List, Option, Some, None}
use Rattle.span_types.specs.Query.{Query}
use Rattle.span_types.specs.Rel.{names_of}
use Rattle.span_enum.specs.Members.{Tuple}
use Rattle.span_cursor.specs.Tuples.{TupleText}
use Rattle.query_book.specs.Answers.{HasAnswer, IsAnswer}
use Rattle.report_text.specs.Reply.{refusal_text}
use Rattle.report_text.specs.declared.refusal.Refusal.{Refusal}
use Rattle.script_syntax.specs.declared.form.Command.{Command}
use Rattle.script_syntax.specs.declared.form.Command.TheVariants as form
use Rattle.span_language.specs.Allowance.{answer_limit}
use Rattle.span_language.specs.Cursors.{IsTupleRefused}
use Rattle.span_language.specs.Step.{IsYesOrNo}
use Rattle.span_language.specs.declared.told.Told.{Told}
use Rattle.span_language.specs.declared.told.Told.TheVariants.{Quiet, Accepted, Refused}

-- the question whether a word is an answer, and without a word whether there is one
abbrev pub question_of : List ℕ → List ℕ → Option (List ℕ) → Command
question_of query name None = form.Nonempty query name
question_of query name (Some word) = form.Has query name word

-- the reply states whether the word is an answer of the query on the text, or why it is no tuple of its variables
abbrev pub IsJudged : ℕ → Query → List ℕ → List ℕ → Told → List ℕ → Type 0
IsJudged number q word text Quiet reply = ⊥
IsJudged number q word text Accepted reply = (tuple : Tuple) × TupleText word (names_of q) tuple × IsYesOrNo (IsAnswer q text tuple) reply
IsJudged number q word text Refused reply = (why : Refusal) × IsTupleRefused q word why × (reply ≡ refusal_text number why)

-- the reply to the question
abbrev pub IsReplied : ℕ → Query → Option (List ℕ) → List ℕ → Told → List ℕ → Type 0
IsReplied number q None text told reply = (told ≡ Accepted) × IsYesOrNo (HasAnswer q text) reply
IsReplied number q (Some word) text told reply = IsJudged number q word text told reply

-- its table lookups: those for one answer, and none if the word is no tuple of the query's variables
abbrev pub IsReplyPaid : Query → Option (List ℕ) → List ℕ → ℕ → ℕ → Type 0
IsReplyPaid q None text before after = after ≤ before + answer_limit q text
IsReplyPaid q (Some word) text before after = ((tuple : Tuple) × TupleText word (names_of q) tuple × (after ≤ before + answer_limit q text))
    ⊎ ((why : Refusal) × IsTupleRefused q word why × (after ≡ before))

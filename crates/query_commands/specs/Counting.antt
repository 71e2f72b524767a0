-- Replies with a number of answers.
use Rattle.std.specs.Prelude.{◌≡◌, ℕ, ◌<◌, List}
use Rattle.report_text.specs.Reply.{refusal_text}
use Rattle.report_text.specs.declared.refusal.Refusal.{Refusal}
use Rattle.report_text.specs.declared.refusal.Refusal.TheVariants.{TooManyAnswers}
use Rattle.span_language.specs.Numbers.{IsNumberReply, IsTooMany, most_answers}
use Rattle.span_language.specs.declared.told.Told.{Told}
use Rattle.span_language.specs.declared.told.Told.TheVariants.{Quiet, Accepted, Refused}

-- the reply is the number, or that it is too great
abbrev pub IsNumberResult : ℕ → ℕ → Told → List ℕ → Type 0
IsNumberResult number n Quiet reply = ⊥
IsNumberResult number n Accepted reply = IsNumberReply n reply
IsNumberResult number n Refused reply = (most_answers < n) × (reply ≡ refusal_text number TooManyAnswers)

-- the reply is the number with the property P, or that it is too great
abbrev pub IsReplyOf : (ℕ → Type 0) → ℕ → Told → List ℕ → Type 0
IsReplyOf P number Quiet reply = ⊥
IsReplyOf P number Accepted reply = (n : ℕ) × P n × IsNumberReply n reply
IsReplyOf P number Refused reply = (n : ℕ) × (why : Refusal) × P n × IsTooMany n why × (reply ≡ refusal_text number why)

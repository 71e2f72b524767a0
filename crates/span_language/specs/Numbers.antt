-- The replies of one number.
use Rattle.std.specs.Prelude.{◌≡◌, ◌<◌, ◌≤◌, ◌^◌, ◌-◌, ℕ, List}
use Rattle.report_text.specs.Reply.{number_text}
use Rattle.report_text.specs.declared.refusal.Refusal.{Refusal}
use Rattle.report_text.specs.declared.refusal.Refusal.TheVariants.{TooManyAnswers}

-- the greatest number in a reply
abbrev pub most_answers : ℕ
most_answers = 2 ^ 64 - 2

-- the reply is the number, which is not too great
abbrev pub IsNumberReply : ℕ → List ℕ → Type 0
IsNumberReply n reply = (n ≤ most_answers) × (reply ≡ number_text n)

-- the number is too great for a reply
abbrev pub IsTooMany : ℕ → Refusal → Type 0
IsTooMany n why = (most_answers < n) × (why ≡ TooManyAnswers)

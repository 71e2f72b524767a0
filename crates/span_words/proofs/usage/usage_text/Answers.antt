use Rattle.std.proofs.Common.{inr, map, string_bytes}
use Rattle.std.specs.Io.{StartsWith}
use Rattle.std.proofs.lemmas.Result.{IfOk-weaker}
use Rattle.span_words.specs.Words.{ReportsUsage, usage_line}
use Rattle.span_words.proofs.usage.usage_text.Goals as goal

pub returns-in_ok-advice-in-Err-Usage : goal.returns-in_ok-advice-in-Err-Usage
returns-in_ok-advice-in-Err-Usage c =
    IfOk-weaker c.below_usage.result (λ text. StartsWith text usage_line) (λ text. ReportsUsage (map string_bytes c.args.words.now) text)
    (λ text line. inr (c.in-Err-Usage.ensures.refused c.in-Err-Usage.field-0-is, line)) c.below_usage.ensures

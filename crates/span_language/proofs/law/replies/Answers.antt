use Rattle.span_language.proofs.Lines.{has_one_reply}
use Rattle.span_language.proofs.law.replies.Goals as goal

pub returns : goal.returns
returns c = has_one_reply

use Rattle.span_words.proofs.Numbers.{reading_of}
use Rattle.span_words.proofs.law.accepted_have_reading.Goals as goal

pub returns : goal.returns
returns c = reading_of

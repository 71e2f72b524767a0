use Rattle.span_language.proofs.Shown.{reads_shown}
use Rattle.span_language.proofs.law.shown_texts.Goals as goal

pub returns : goal.returns
returns c = reads_shown
